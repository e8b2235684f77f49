mod Answering
mod Hexes
