use Rattle.es5_objects.proofs.index.+has_digits.Given as goal

abbrev pub decreases-has_digits : goal.decreases-has_digits
decreases-has_digits l = l.n
