use Rattle.std.proofs.Common.{rules, ◌≡◌, Bool, cond, ap, ◌∙◌}
use Rattle.std.proofs.lemmas.List.Filters.{length-filter_more}
use Rattle.leaf.specs.Kind.{admits}
use Rattle.list.specs.Held.{held_of}
use Rattle.list.specs.Lists.{any}
use Rattle.foreign.proofs.Counting.{one_or_none}
use Rattle.foreign.proofs.running.count_admitted.Goals as goal

pub loop-v-preserved : goal.loop-v-preserved
loop-v-preserved g c =
    let l = c.loop-v in
    let p : _ → Bool = λ v. any (λ x. admits g.L.Leaf.kind x v) (held_of c.args.list.now) in
    let more = length-filter_more p c.args.values.now l.v-index c.v-item.result c.loop-v-test.true in
    let asked : c.admits.result ≡ p c.v-item.result = search (rules, c.admits.ensures.answer) in
    let here : c.from-yes.result ≡ cond (p c.v-item.result) 1 0 = c.from-yes.ensures ∙ (ap mir.Val.bool_byte asked ∙ (one_or_none (p c.v-item.result)).0) in
    let few = (one_or_none c.admits.result).1 in
    search (rules, more, here, few, c.v-item.is)
