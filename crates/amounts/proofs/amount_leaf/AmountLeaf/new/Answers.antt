use Rattle.std.proofs.Common.{rules, ℤ, Ok, Option, Result, ap, ◌∙◌, subst}
use Rattle.leaf.specs.declared.bounds.Bounds.{Bounds}
use Rattle.faults.specs.Faults.{Refused, then}
use Rattle.amounts.specs.declared.amount_leaf.AmountLeaf.{AmountLeaf}
use Rattle.amounts.specs.Leaves.{leaf_of}
use Rattle.amounts.specs.Making.{after, amount_in, window_of}
use Rattle.amounts.specs.Meaning.{Means}
use Rattle.amounts.specs.Words.{value_of}
use Rattle.amounts.specs.InRange.{amount_is}
use Rattle.amounts.specs.Amounts.{amounts}
use Rattle.leaf.specs.Laws.Made.{window_made}
use Rattle.leaf.specs.Laws.Orders.{int_written}
use Rattle.amounts.proofs.Making.{maker_judged}
use Rattle.amounts.proofs.Works.{worked_leaves}
use Rattle.amounts.proofs.amount_leaf.AmountLeaf.new.Goals as goal

pub returns : goal.returns
returns c =
    let ws = c.args.required.now in
    let us = c.args.barred.now in
    let b = c.in_ok-bounds.bounds in
    let a = c.leaf_of.result in
    let none = c.in_ok-check.ensures in
    let q = c.in_ok-bounds.ensures.value ∙ int_written amount_in c.args.minimum c.args.maximum in
    let w = window_made amounts amount_in (λ x z e. amount_is x.negative x.magnitude z e) c.args.minimum c.args.maximum b q in
    let leaf : Bounds ℤ → Result AmountLeaf Refused = λ x. Ok (leaf_of x.minimum x.maximum ws us) in
    record {
      value =
          ap (λ (x : AmountLeaf). Ok x) c.leaf_of.ensures.value ∙
          (ap (λ (r : Result (Bounds ℤ) Refused). then r leaf) q ∙
          ap (λ (o : Option Refused). after o (then (window_of c.args.minimum c.args.maximum) leaf)) none);
      sound = c.leaf_of.ensures.sound w.window;
      means =
          subst (λ (h : Option ℤ). Means (value_of c.args.minimum) h ws us a) w.maximum
          (subst (λ (l : Option ℤ). Means l b.maximum ws us a) w.minimum c.leaf_of.ensures.means);
      judged = maker_judged;
      worked = worked_leaves;
    }

pub returns-in_err-bounds-clause-value : goal.returns-in_err-bounds-clause-value
returns-in_err-bounds-clause-value c =
    let q = c.in_err-bounds.ensures.value ∙ int_written amount_in c.args.minimum c.args.maximum in
    let none = c.in_ok-check.ensures in
    search (rules, q, none)
