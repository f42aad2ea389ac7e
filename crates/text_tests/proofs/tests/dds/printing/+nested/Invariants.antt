use Rattle.text_tests.proofs.tests.dds.printing.+nested.Given as goal

abbrev pub decreases-nested : goal.decreases-nested
decreases-nested l = l.depth
