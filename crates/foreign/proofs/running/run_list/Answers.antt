use Rattle.std.proofs.Common.{◌≡◌, ℕ, [], length, map, filter, take, ap, sym, ◌∙◌, subst, rules}
use Rattle.leaf.specs.Kind.{Lawful}
use Rattle.leaf.specs.Kind.{admits as admitted}
use Rattle.list.specs.Held.{Leads, Settled, held_of, places_of}
use Rattle.list.specs.Lists.{All, any}
use Rattle.list.specs.Runs.{run}
use Rattle.list.specs.Runs.Call.{insert}
use Rattle.foreign.specs.Running.{made_of, read_or_none}
use Rattle.foreign.proofs.Makes.{made_lawful}
use Rattle.foreign.proofs.running.run_list.Goals as goal

pub returns-clause-counts : goal.returns-clause-counts
returns-clause-counts g c =
    let k = g.L.Leaf.kind in
    let n : ℕ = length c.args.table.now in
    let b = c.args.bytes.now in
    let xs = made_of k n b 0 in
    let read = c.read_leaves-leaves.ensures in
    let opened = c.open-list.ensures in
    let put = c.insert_leaves.ensures in
    let asked = c.count_admitted-yes.ensures in
    let shown = c.read_lines-lines.ensures in
    let front = take c.read_leaves-leaves.result c.read_leaves-leaves.new.table in
    let same : length c.args.made.now ≡ n = search (rules, c.requires) in
    let made : front ≡ xs = read.made ∙ ap (λ (i : ℕ). made_of k i b 0) same in
    let lawful = subst (All (Lawful k)) (sym made) (made_lawful k b g.met.L.Leaf.lawfully n 0) in
    let led : Leads k (map insert front) c.insert_leaves.new.list = put.run [] lawful opened.run in
    let places : places_of c.insert_leaves.new.list ≡ n = put.table.places ∙ ap length opened.table.1 in
    let held : held_of c.insert_leaves.new.list ≡ run k n (map insert xs) = led.held ∙ ap (λ (i : ℕ). run k i (map insert front)) places ∙ ap (λ ys. run k n (map insert ys)) made in
    let settled : Settled k c.count_admitted-yes.new.list = subst (Settled k) (sym asked.same) led.settled in
    record {
      leaves = search (rules, made, read.within);
      yes = asked.answer ∙ ap (λ h. length (filter (λ v. any (λ x. admitted k x v) h) c.args.values.now)) held;
      lines = shown settled ∙ ap (λ l. read_or_none k c.args.readings (held_of l)) asked.same ∙ ap (read_or_none k c.args.readings) held;
    }
