use Rattle.std.proofs.Common.{◌≡◌, [], sym}
use Rattle.word_base.specs.Words.{words_of}
use Rattle.dxbc_container.specs.Chunks.{content_of}
use Rattle.dxbc_container.specs.Refusals.{shex_refusals}
use Rattle.tpf_decode.specs.Refusals.{header_faults}
use Rattle.translator.proofs.RoomFor.{is_named}
use Rattle.translator.proofs.preparing.room_for.Goals as goal

pub returns-in-Ok-header-clause-unnamed : goal.returns-in-Ok-header-clause-unnamed
returns-in-Ok-header-clause-unnamed c unnamed =
    let content = content_of c.args.bytes.now c.in-Ok.part in
    let container : shex_refusals c.args.bytes.now ≡ [] =
    c.first_laws.ensures.none (shex_refusals c.args.bytes.now) (sym c.in-Ok.ensures.refused) in
    let head : header_faults (words_of content) ≡ [] =
    c.first_laws.ensures.none (header_faults (words_of content)) (sym c.in-Ok-header.ensures.refused) in
    absurd (is_named c.args.bytes.now content container c.in-Ok.ensures.data head unnamed)
