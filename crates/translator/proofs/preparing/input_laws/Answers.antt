use Rattle.translator.proofs.InputRules.{first_of_input, none_broken, one_program}
use Rattle.translator.proofs.preparing.input_laws.Goals as goal

pub returns-clause-first : goal.returns-clause-first
returns-clause-first c bytes room fits r f =
    first_of_input bytes room fits c.binding_laws.ensures.default_bound r f

pub returns-clause-sound : goal.returns-clause-sound
returns-clause-sound c bytes p h checked =
    none_broken c.container_laws.ensures.single c.spelled_laws.ensures.determined bytes p h checked

pub returns-clause-single : goal.returns-clause-single
returns-clause-single c bytes p q h k =
    one_program c.container_laws.ensures.single c.spelled_laws.ensures.determined bytes p q h k
