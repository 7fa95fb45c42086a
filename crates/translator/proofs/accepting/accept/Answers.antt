use Rattle.std.proofs.Common.{◌≡◌, ◌<◌, ◌≤◌, [], sym, arith}
use Rattle.std.proofs.lemmas.Result.{err_from_is_err_and}
use Rattle.std.specs.Prelude.{slice_index}
use Rattle.word_base.specs.Words.{words_of}
use Rattle.dxbc_container.specs.Chunks.{content_of}
use Rattle.dxbc_container.specs.Refusals.{shex_refusals}
use Rattle.tpf_decode.specs.Refusals.{header_faults}
use Rattle.shader_check.specs.Checked.{checked_refusals}
use Rattle.translator.proofs.Answered.{few, is_read, refused_container, refused_head, refused_room}
use Rattle.translator.proofs.Answered.{refused_tokens, refused_program}
use Rattle.translator.proofs.accepting.accept.Goals as goal

pub returns-in_err-part-clause-refused : goal.returns-in_err-part-clause-refused
returns-in_err-part-clause-refused c map_for =
    let p = err_from_is_err_and c.from_residual.result c.from_residual.ensures.1 in
    rw (p.1, p.2)
    (refused_container c.args.program.now.room c.args.bytes.now map_for c.in_err-part.field-0.0
    c.first_laws.ensures.some c.in_err-part.ensures.refused)

pub returns-in_err-words-clause-refused : goal.returns-in_err-words-clause-refused
returns-in_err-words-clause-refused c map_for =
    let p = err_from_is_err_and c.from_residual-in_err-words.result c.from_residual-in_err-words.ensures.1 in
    let content = content_of c.args.bytes.now c.in_ok-part.part in
    let container : shex_refusals c.args.bytes.now ≡ [] =
    c.first_laws.ensures.none (shex_refusals c.args.bytes.now) (sym c.in_ok-part.ensures.refused) in
    rw (p.1, p.2)
    (refused_head c.args.program.now.room c.args.bytes.now map_for content
    c.container_laws.ensures.single container c.in_ok-part.ensures.data c.in_err-words.field-0.0 c.first_laws.ensures.some
    c.in_err-words.ensures.refused)

pub returns-then-room-words-clause-refused : goal.returns-then-room-words-clause-refused
returns-then-room-words-clause-refused c map_for =
    let content = content_of c.args.bytes.now c.in_ok-part.part in
    let container : shex_refusals c.args.bytes.now ≡ [] =
    c.first_laws.ensures.none (shex_refusals c.args.bytes.now) (sym c.in_ok-part.ensures.refused) in
    let head : header_faults (words_of content) ≡ [] =
    c.first_laws.ensures.none (header_faults (words_of content)) (sym c.in_ok-words.ensures.refused) in
    let long : c.args.program.now.room < slice_index (words_of content) 1 =
    omega (arith, c.in_ok-words.ensures.count, c.room.ensures, c.if-room-words.true) in
    refused_room c.args.program.now.room c.args.bytes.now map_for content
    c.container_laws.ensures.single container c.in_ok-part.ensures.data head long

pub returns-in_err-read_into-clause-refused : goal.returns-in_err-read_into-clause-refused
returns-in_err-read_into-clause-refused c map_for =
    let p = err_from_is_err_and c.from_residual-in_err-read_into.result c.from_residual-in_err-read_into.ensures.1 in
    let content = content_of c.args.bytes.now c.in_ok-part.part in
    let container : shex_refusals c.args.bytes.now ≡ [] =
    c.first_laws.ensures.none (shex_refusals c.args.bytes.now) (sym c.in_ok-part.ensures.refused) in
    let short : slice_index (words_of content) 1 ≤ c.args.program.now.room =
    omega (arith, c.in_ok-words.ensures.count, c.room.ensures, c.if-room-words.false) in
    rw (p.1, p.2)
    (refused_tokens c.args.program.now.room c.args.bytes.now map_for content
    c.container_laws.ensures.single container c.in_ok-part.ensures.data short c.in_err-read_into.field-0.0
    c.in_err-read_into.ensures.refused)

pub returns-in_err-check-clause-refused : goal.returns-in_err-check-clause-refused
returns-in_err-check-clause-refused c map_for =
    let p = err_from_is_err_and c.from_residual-in_err-check.result c.from_residual-in_err-check.ensures.1 in
    let content = content_of c.args.bytes.now c.in_ok-part.part in
    let container : shex_refusals c.args.bytes.now ≡ [] =
    c.first_laws.ensures.none (shex_refusals c.args.bytes.now) (sym c.in_ok-part.ensures.refused) in
    let short : slice_index (words_of content) 1 ≤ c.args.program.now.room =
    omega (arith, c.in_ok-words.ensures.count, c.room.ensures, c.if-room-words.false) in
    let shader = c.read_into.new.program.shader in
    rw (p.1, p.2)
    (refused_program c.args.program.now.room c.args.bytes.now map_for content
    c.container_laws.ensures.single container c.in_ok-part.ensures.data short shader c.spelled_laws.ensures.determined
    c.in_ok-read_into.ensures.sound c.in_ok-read_into.ensures.ok c.in_err-check.field-0.0
    (c.first_laws.ensures.some (checked_refusals shader) c.in_err-check.field-0.0 (sym c.in_err-check.ensures)))

pub returns-clause-read : goal.returns-clause-read
returns-clause-read c =
    let content = content_of c.args.bytes.now c.in_ok-part.part in
    let container : shex_refusals c.args.bytes.now ≡ [] =
    c.first_laws.ensures.none (shex_refusals c.args.bytes.now) (sym c.in_ok-part.ensures.refused) in
    let short : slice_index (words_of content) 1 ≤ c.args.program.now.room =
    omega (arith, c.in_ok-words.ensures.count, c.room.ensures, c.if-room-words.false) in
    let shader = c.read_into.new.program.shader in
    let spelled = c.in_ok-read_into.ensures.ok in
    let checked : checked_refusals shader ≡ [] = c.checked_laws.ensures.sound shader (sym c.in_ok-check.ensures) in
    is_read c.args.program.now.room c.args.bytes.now content shader c.container_laws.ensures.single
    c.spelled_laws.ensures.determined container c.in_ok-part.ensures.data short c.byte_laws.ensures.words
    c.in_ok-read_into.ensures.sound spelled c.in_ok-read_into.ensures.size checked checked
    (c.checked_laws.ensures.nested shader (c.checked_laws.ensures.known shader (words_of content) spelled) checked)

pub returns-clause-short : goal.returns-clause-short
returns-clause-short c =
    let content = content_of c.args.bytes.now c.in_ok-part.part in
    let short : slice_index (words_of content) 1 ≤ c.args.program.now.room =
    omega (arith, c.in_ok-words.ensures.count, c.room.ensures, c.if-room-words.false) in
    let shader = c.read_into.new.program.shader in
    let few' = few shader (words_of content) c.args.program.now.room c.in_ok-read_into.ensures.ok short in
    omega (arith, few', c.read_into.ensures.room)
