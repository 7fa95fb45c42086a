use Rattle.raise_views.proofs.Growing.{at_most, grows_on}
use Rattle.raise_views.proofs.Worked.{all_nodes, begun_room, done_room, enough_of}
use Rattle.raise_views.proofs.guarding.raised.Goals as goal

pub chain-last-requires-clause-room : goal.chain-last-requires-clause-room
chain-last-requires-clause-room c =
    let b = c.begin-front.ensures in
    let n = enough_of c.count_laws.ensures c.args.program.now.shader _ c.args.meaning c.requires.guardable c.requires.meaning _ _ b.operands
    b.instruction _ c.given-given.ensures.few in
    begun_room _ _ _ _ _ _ _ n b.grows.few b.grows.capacity c.requires.room

pub some_statement-requires-clause-room : goal.some_statement-requires-clause-room
some_statement-requires-clause-room c =
    let b = c.begin-front.ensures in
    let n = enough_of c.count_laws.ensures c.args.program.now.shader _ c.args.meaning c.requires.guardable c.requires.meaning _ _ b.operands
    b.instruction _ c.given-given.ensures.few in
    let g = c.chain-last.ensures.grows in
    done_room _ _ _ _ _ _ _ _ _ n b.grows.few b.grows.capacity g.few g.capacity c.requires.room

pub returns-clause-grows : goal.returns-clause-grows
returns-clause-grows c =
    let b = c.begin-front.ensures in
    let n = enough_of c.count_laws.ensures c.args.program.now.shader _ c.args.meaning c.requires.guardable c.requires.meaning _ _ b.operands
    b.instruction _ c.given-given.ensures.few in
    let two = grows_on _ _ _ _ _ _ b.grows c.chain-last.ensures.grows (at_most _ _) in
    grows_on _ _ _ _ _ _ two c.some_statement.ensures.grows (all_nodes _ _ _ n)
