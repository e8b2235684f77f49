-- What is read of an input prints as the whole input does.
use Rattle.std.proofs.Common.{◌≡◌, ℕ, List, take, IfSome, Some, None, Option, ap, ◌∙◌}
use Rattle.std.specs.Option.{option_map}
use Rattle.sheets.specs.Output.{sheet_output}
use Rattle.sheets.specs.Laws.TooLong.{front_same}

pub front_read : (o : Option (List ℕ)) (v : List ℕ) → IfSome (option_map (take 32769) o) (λ xs. v ≡ xs) → IfSome o (λ bytes. sheet_output v ≡ sheet_output bytes)
front_read None v h = tt
front_read (Some bytes) v h = ap sheet_output h ∙ front_same bytes
