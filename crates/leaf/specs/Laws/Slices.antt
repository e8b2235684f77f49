-- A slice of bytes holds bytes.
use Rattle.std.proofs.Common.{ℕ, suc, List, [], ◌∷◌, get_or, Fits, w8, arith}
use Rattle.leaf.specs.Encoding.{Bytes}

pub bytes_held : (s : List ℕ) → ((i : ℕ) → Fits w8 (get_or s i 0)) → Bytes s
bytes_held [] h = tt
bytes_held (b ∷ bs) h = (omega (arith, h 0), bytes_held bs (λ i. h (suc i)))
