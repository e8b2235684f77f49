use Rattle.std.proofs.Common.{arith}
use Rattle.divisors.specs.Rows.{held}
use Rattle.divisors.proofs.Steps.{ends, goes_on}
use Rattle.divisors.proofs.working.Working.fold.Goals as goal

pub loop-preserved : goal.loop-preserved
loop-preserved c = record {
  fits = omega (arith, c.step.ensures.count);
  tidy = c.step.ensures.tidy;
  folds = λ ys f. c.loop.invariant.folds ys (goes_on (held c.loop.self) (held c.step.new.self) ys c.step.result c.loop-test.true c.step.ensures.step f);
}

pub returns-clause-folds : goal.returns-clause-folds
returns-clause-folds c =
    c.loop.invariant.folds (held c.step.new.self) (ends (held c.loop.self) (held c.step.new.self) c.step.result c.loop-test.false c.step.ensures.step)
