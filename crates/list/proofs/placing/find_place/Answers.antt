use Rattle.std.proofs.Common.{rules, ◌∙◌, ℕ, ap, sym, add-one}
use Rattle.leaf.specs.Kind.{before}
use Rattle.std.specs.List.{insert as put_at}
use Rattle.list.proofs.Searches.{put_behind, put_first}
use Rattle.list.proofs.placing.find_place.Goals as goal

pub returns-in-Some-clause-place : goal.returns-in-Some-clause-place
returns-in-Some-clause-place g c =
    let x = c.args.leaf.now in
    let xs = c.args.held.now in
    let i = c.in-Some.last in
    put_behind (before g.L.Leaf.kind) x xs i (search rules) (search rules) (λ k l m. search rules) ∙ ap (λ (j : ℕ). put_at xs j x) (sym (add-one i))

pub returns-in-None-clause-place : goal.returns-in-None-clause-place
returns-in-None-clause-place g c = put_first (before g.L.Leaf.kind) c.args.leaf.now c.args.held.now (λ k l. search rules)
