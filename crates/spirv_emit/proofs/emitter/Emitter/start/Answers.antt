use Rattle.std.proofs.Common.{◌≡◌, inl, inr, List, [], ◌∷◌, length, refl, sym, ap, ◌∙◌, arith}
use Rattle.std.specs.Prelude.{map}
use Rattle.std.specs.List.{sum}
use Rattle.kept_values.specs.Tables.{dirty_in}
use Rattle.word_base.specs.Alu.{all_ones}
use Rattle.spirv_words.specs.StorageClass as storage
use Rattle.spirv_symbols.specs.declared.symbol.Symbol.{Symbol}
use Rattle.spirv_symbols.specs.declared.symbol.Symbol.TheVariants.{AType, Constant, FirstLabel, Import, Main, True}
use Rattle.spirv_symbols.specs.declared.symbol.TypeSymbol.TheVariants.{Pair, Procedure, Truth, Void, Word, WordPointer}
use Rattle.spirv_symbols.specs.Tables.{weight, Table}
use Rattle.spirv_emit.specs.Emission.{waiting_words, waiting_ids, words_left, ids_left}
use Rattle.spirv_emit.specs.Growing.{globals_in}
use Rattle.spirv_emit.proofs.Ordered.{only_words}
use Rattle.spirv_emit.proofs.emitter.Emitter.start.Goals as goal

abbrev pointers_and_constants : List Symbol
pointers_and_constants =
    AType (WordPointer storage.Function) ∷ AType (WordPointer storage.Input) ∷ AType (WordPointer storage.Uniform)
    ∷ AType (WordPointer storage.PushConstant) ∷ AType (WordPointer storage.StorageBuffer) ∷ AType (WordPointer storage.Workgroup)
    ∷ Constant 0 ∷ Constant 1 ∷ Constant 4 ∷ Constant 31 ∷ Constant 32 ∷ Constant all_ones ∷ []

pub put_all-requires-clause-order : goal.put_all-requires-clause-order
put_all-requires-clause-order c = (
  tt,
  (
    (inr (inl refl), (inr (inl refl), tt)),
    (
      tt,
      (
        (inr (inl refl), tt),
        (
          tt,
          (
            (inr (inl refl), tt),
            (
              (inr (inr (inl refl)), (inr (inl refl), tt)),
              (
                tt,
                (
                  tt,
                  only_words c.args.self.now.symbols.entries c.args.self.now.frame.context
                      (Import ∷ FirstLabel ∷ Main ∷ AType Procedure ∷ AType Void ∷ True ∷ AType Truth ∷ AType Pair ∷ AType Word ∷ []) pointers_and_constants
                      (inr (inr (inr (inr (inr (inr (inr (inr (inl refl)))))))))
                      (refl, (refl, (refl, (refl, (refl, (refl, (refl, (refl, (refl, (refl, (refl, (refl, tt)))))))))))),
                ),
              ),
            ),
          ),
        ),
      ),
    ),
  ),
)

pub put_all-requires-clause-locals : goal.put_all-requires-clause-locals
put_all-requires-clause-locals c =
    (refl, (refl, (refl, (refl, (refl, (refl, (refl, (refl, (refl, (refl, (refl, (refl, (refl, (refl, (refl, (refl, (refl, (refl, (refl, (refl, (refl, tt)))))))))))))))))))))

pub returns-clause-begun : goal.returns-clause-begun
returns-clause-begun c =
    let p = c.put_all.ensures in
    let t = p.there in
    let code : length c.args.self.now.code.list ≡ 0 = ap length c.requires.new.code in
    let words : sum (map waiting_words (dirty_in c.args.self.now.kept)) ≡ 0 = ap (λ l. sum (map waiting_words l)) c.requires.new.kept.dirty in
    let ids : sum (map waiting_ids (dirty_in c.args.self.now.kept)) ≡ 0 = ap (λ l. sum (map waiting_ids l)) c.requires.new.kept.dirty in
    let next : c.args.self.now.symbols.next ≡ 1 = ap (λ (t : Table). t.next) c.requires.new.symbols in
    let none : weight c.args.self.now.frame.context c.args.self.now.symbols.entries ≡ 0 =
    ap (λ (t : Table). weight c.args.self.now.frame.context t.entries) c.requires.new.symbols in
    record {
      table = p.stands;
      kept = λ w id q. absurd (cc (sym q ∙ c.requires.new.kept.ids w));
      fixed = record {
        word = t.0;
        truth = t.1.1.0;
        pair = t.1.0;
        local = t.1.1.1.1.1.1.1.1.1.0;
        input = t.1.1.1.1.1.1.1.1.1.1.0;
        uniform = t.1.1.1.1.1.1.1.1.1.1.1.0;
        pushed = t.1.1.1.1.1.1.1.1.1.1.1.1.0;
        buffer = t.1.1.1.1.1.1.1.1.1.1.1.1.1.0;
        shared = t.1.1.1.1.1.1.1.1.1.1.1.1.1.1.0;
        zero' = t.1.1.1.1.1.1.1.1.1.1.1.1.1.1.1.0;
        one = t.1.1.1.1.1.1.1.1.1.1.1.1.1.1.1.1.0;
        four = t.1.1.1.1.1.1.1.1.1.1.1.1.1.1.1.1.1.0;
        thirty_one = t.1.1.1.1.1.1.1.1.1.1.1.1.1.1.1.1.1.1.0;
        thirty_two = t.1.1.1.1.1.1.1.1.1.1.1.1.1.1.1.1.1.1.1.0;
        ones = t.1.1.1.1.1.1.1.1.1.1.1.1.1.1.1.1.1.1.1.1.0;
        extended = t.1.1.1.1.1.1.1.1.0;
        holds = t.1.1.1.0;
        main = t.1.1.1.1.1.1.0;
        label = t.1.1.1.1.1.1.1.0;
      };
      stored = c.kept_laws.ensures.all c.args.self.now.kept c.requires.new.kept.dirty;
      words' = omega (arith, code, words, none, c.requires.words, p.words);
      ids' = omega (arith, ids, next, c.requires.ids, p.extends.limit', p.ids);
    }

pub returns-clause-globals : goal.returns-clause-globals
returns-clause-globals c = c.put_all.ensures.globals ∙ ap (λ (t : Table). globals_in t.entries) c.requires.new.symbols

pub returns-clause-words : goal.returns-clause-words
unfolding words_left
returns-clause-words c =
    let code : length c.args.self.now.code.list ≡ 0 = ap length c.requires.new.code in
    let words : sum (map waiting_words (dirty_in c.args.self.now.kept)) ≡ 0 = ap (λ l. sum (map waiting_words l)) c.requires.new.kept.dirty in
    let none : weight c.args.self.now.frame.context c.args.self.now.symbols.entries ≡ 0 =
    ap (λ (t : Table). weight c.args.self.now.frame.context t.entries) c.requires.new.symbols in
    omega (arith, code, words, none, c.put_all.ensures.words)

pub returns-clause-ids : goal.returns-clause-ids
unfolding ids_left
returns-clause-ids c =
    let ids : sum (map waiting_ids (dirty_in c.args.self.now.kept)) ≡ 0 = ap (λ l. sum (map waiting_ids l)) c.requires.new.kept.dirty in
    let next : c.args.self.now.symbols.next ≡ 1 = ap (λ (t : Table). t.next) c.requires.new.symbols in
    omega (arith, ids, next, c.put_all.ensures.extends.limit', c.put_all.ensures.ids)
