use Rattle.text_tests.proofs.tests.das.printing.+nested.Given as goal

abbrev pub decreases-nested : goal.decreases-nested
decreases-nested l = l.depth
