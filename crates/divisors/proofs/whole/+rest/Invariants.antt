use Rattle.divisors.proofs.whole.+rest.Given as goal

abbrev pub decreases-rest : goal.decreases-rest
decreases-rest l = l.a
