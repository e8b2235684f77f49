-- Bytes in hexadecimal, one after another.
use Rattle.std.proofs.Common.{◌≡◌, ℕ, ◌+◌, ◌<◌, List, [], ◌++◌, length, get_or, take, flat_map, sym, ap, ◌∙◌}
use Rattle.std.proofs.lemmas.List.{flat_map_more, take_more}
use Rattle.cases.specs.Texts.{byte_text}

-- one byte more
pub one_byte_more : (xs : List ℕ) (i : ℕ) → i < length xs → flat_map byte_text (take i xs) ++ byte_text (get_or xs i 0) ≡ flat_map byte_text (take (i + 1) xs)
one_byte_more xs i h = flat_map_more byte_text [] (take i xs) (get_or xs i 0) ∙ ap (flat_map byte_text) (sym (take_more xs i 0 h))
