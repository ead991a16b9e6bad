use Rattle.std.proofs.Common.{length}
use Rattle.pf_form_tests.proofs.forms.+read.Given as goal

abbrev pub decreases-read : goal.decreases-read
decreases-read l = length l.text.now
