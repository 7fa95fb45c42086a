use Rattle.std.proofs.Common.{◌≡◌, rules}
use Rattle.dxbc_container.specs.Layout.{container_of}
use Rattle.dxbc_container.proofs.Built.{built_sole, built_sound, built_data}
use Rattle.dxbc_container.proofs.writer.build.Goals as goal

pub returns-clause-sole : goal.returns-clause-sole
returns-clause-sole c =
    let e : c.push_words-2.new.out.items ≡ container_of c.args.tokens.now = search rules in
    built_sole c.push_words-2.new.out.items c.args.tokens.now e (c.word_laws.ensures.bytes_length c.args.tokens.now) c.requires

pub returns-clause-sound : goal.returns-clause-sound
returns-clause-sound c =
    let e : c.push_words-2.new.out.items ≡ container_of c.args.tokens.now = search rules in
    built_sound c.push_words-2.new.out.items c.args.tokens.now e (c.word_laws.ensures.bytes_length c.args.tokens.now) c.requires

pub returns-clause-data : goal.returns-clause-data
returns-clause-data c =
    let e : c.push_words-2.new.out.items ≡ container_of c.args.tokens.now = search rules in
    built_data c.push_words-2.new.out.items c.args.tokens.now e (c.word_laws.ensures.bytes_length c.args.tokens.now) c.requires
