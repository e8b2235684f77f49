use Rattle.std.proofs.Common.{◌≤◌, ◌<◌, ◌≡◌, ◌^◌, ℕ, List, ◌+◌, length, sym, subst, ap, arith, map, rules}
use Rattle.std.proofs.lemmas.List.{length-map}
use Rattle.notation.specs.Laws.NumberedLines.{few_lines, first_fits, left, next_fits, no_line_left, number}
use Rattle.notation.specs.Text.{lines_of}
use Rattle.quote.specs.Batch.{Line, batch_lines, bytes_in, line_with}
use Rattle.quote.proofs.Turns.{Left, ends, starts, turn}
use Rattle.quote.proofs.batch.take_batch.Goals as goal

abbrev read : List ℕ → Line
read line = line_with (bytes_in line)

pub loop-k-init : goal.loop-k-init
loop-k-init c =
    let text = c.args.batch.now in
    let it = c.into_iter-k-iterator.result in
    let first : number it ≡ 1 = search rules in
    let whole : left it ≡ lines_of text = search rules in
    let short : length text < 2 ^ 63 = search rules in
    let n = c.nothing-taken in
    record {
      fits = first_fits it text first whole short;
      left =
          starts (batch_lines text) n.result c.args.amounts.now c.args.days.now (number it) (map read (left it))
          c.requires n.ensures.counts.0 n.ensures.counts.1 n.ensures.counts.2 n.ensures.counts.3 n.ensures.remarks first (ap (map read) whole);
    }

pub loop-k-preserved : goal.loop-k-preserved
loop-k-preserved c =
    let h = c.in-Some.ensures.steps in
    let text = c.args.batch.now in
    let it = c.loop-k.k-iterator in
    let left_now = map read (left c.next.new.self) in
    let few : length (batch_lines text) ≤ 2 ^ 63 = omega (arith, length-map (lines_of text) read, few_lines text) in
    let was : Left (batch_lines text) c.loop-k.taken c.loop-k.amounts c.loop-k.days c.in-Some.k (map read (left it)) =
    subst (λ (n : ℕ). Left (batch_lines text) c.loop-k.taken c.loop-k.amounts c.loop-k.days n (map read (left it))) (sym h.0.0) c.loop-k.invariant.left in
    let fits : number it + length (left it) ≤ 2 ^ 63 = c.loop-k.invariant.fits in
    let before : length was.before < 2 ^ 63 = let f = was.few in let e = h.0.0 in omega arith in
    record {
      fits = next_fits it c.next.new.self c.in-Some.k c.in-Some.line.now c.loop-k.invariant.fits h.0.0 h.0.1 h.1;
      left =
          turn (batch_lines text) few c.loop-k.taken c.take_line.new.taken c.loop-k.amounts c.take_line.new.amounts c.loop-k.days c.take_line.new.days c.in-Some.k (number c.next.new.self)
          (read c.in-Some.line.now) left_now (map read (left it)) was (ap (map read) h.1) h.0.1 (c.in_ok-take_line.ensures.follows was.before was.stands before);
    }

pub returns : goal.returns
returns c =
    let none = no_line_left c.loop-k.k-iterator c.loop-k.invariant.fits c.in-None.ensures.steps in
    ends (batch_lines c.args.batch.now) _ _ _ _ _ c.loop-k.invariant.left (ap (map read) none)
