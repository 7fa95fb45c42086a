use Rattle.std.proofs.Common.{◌≡◌, ap}
use Rattle.word_base.specs.Words.{words_of}
use Rattle.std.proofs.Common.{⊎_elim}
use Rattle.tpf_decode.specs.declared.argument.Kind.{Kind}
use Rattle.tpf_decode.specs.declared.argument.Kind.TheVariants.{Temp, Indexable, Resource, Constant, Uav, Shared}
use Rattle.tpf_decode.specs.Tokens.{Slot, fixed_of}
use Rattle.tpf_decode.proofs.Operands.{slot_fixed}
use Rattle.tpf_decode.proofs.reading.read_fixed.Goals as goal

pub returns-in-Temp : goal.returns-in-Temp
returns-in-Temp c =
    let f = λ (k : Kind) (e : c.args.kind ≡ k). ap (λ k. fixed_of k c.args.token) e in
    let s : fixed_of c.args.kind c.args.token ≡ Slot =
    ⊎_elim (f Temp) (⊎_elim (f Indexable) (⊎_elim (f Resource) (⊎_elim (f Constant) (⊎_elim (f Uav) (f Shared))))) c.in-Temp.is in
    slot_fixed (fixed_of c.args.kind c.args.token) (words_of c.args.bytes.now) c.args.at c.word-slot.result s c.requires.words c.word-slot.ensures
