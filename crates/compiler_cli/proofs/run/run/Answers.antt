use Rattle.compiler_cli.proofs.Causes.{usage, missing, refused, complete}
use Rattle.compiler_cli.proofs.run.run.Goals as goal

pub returns-clause-usage : goal.returns-clause-usage
returns-clause-usage g c = usage _ _ _ _ _ c.answer.result c.answer.ensures

pub returns-clause-missing : goal.returns-clause-missing
returns-clause-missing g c = λ job e m. missing _ _ _ _ _ c.answer.result job c.answer.ensures e m

pub returns-clause-refused : goal.returns-clause-refused
returns-clause-refused g c = λ job r e f. refused _ _ _ _ _ c.answer.result job r c.answer.ensures e f

pub returns-clause-complete : goal.returns-clause-complete
returns-clause-complete g c = λ job e f. complete _ _ _ _ _ c.answer.result job c.answer.ensures e f
