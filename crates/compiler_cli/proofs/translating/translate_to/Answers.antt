use Rattle.std.proofs.Common.{◌≡◌, ℕ, arith}
use Rattle.compiler_cli.proofs.translating.translate_to.Goals as goal

pub translate_in-result-requires-clause-room : goal.translate_in-result-requires-clause-room
translate_in-result-requires-clause-room g c = λ (n : ℕ) named.
    let room : c.in-Ok.work.words ≡ c.room_for.result = c.in-Ok.ensures.rooms.words' in
    let words : c.room_for.result ≡ n = c.room_for.ensures.named n named in
    omega (arith, room, words)
