use Rattle.std.proofs.Common.{length, None, refl, rules}
use Rattle.std.proofs.lemmas.Slice.Zip.{zip_end}
use Rattle.divisors.proofs.Loops.{up_decides}
use Rattle.divisors.proofs.row.Row.is_at_most.Goals as goal

pub returns-clause-value : goal.returns-clause-value
returns-clause-value c =
    let xs = c.fractions-mine.result.now in
    let ys = c.fractions-others.result.now in
    let ended = zip_end xs ys c.loop-f.yielded c.into_iter-f-iterator.result c.loop-f.f-iterator c.next.new.self None (search rules) (search rules) c.loop-f.yielded_by refl c.in-None.ensures.steps in
    let decided = up_decides xs ys (length c.loop-f.yielded) ended c.loop-f.invariant in cc
