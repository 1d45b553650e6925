-- The largest image has 8,209 words, so the number fits.
use Rattle.std.proofs.Common.{arith, ◌≡◌, ℕ, ◌≤◌}
use Rattle.rules.proofs.Limits.{legal_says, words_most}
use Rattle.rules.specs.SetUp.{words_needed}
use Rattle.rules.specs.Settings.{legal}
use Rattle.rules.specs.declared.Settings.{Settings}
use Rattle.rules.proofs.Laws.{either, holds, fails}
use Rattle.ernuvald.proofs.ernuvald_words.Goals as goal

most : (S : Settings) {n : ℕ} → n ≡ words_needed S → n ≤ 8209
unfolding words_needed
most S e = rw e (elim (either (legal S)) [
  | holds h ↦ rw h (words_most (legal_says S h))
  | fails h ↦ rw h (omega arith)
])

pub overflow_cast-result : goal.overflow_cast-result
overflow_cast-result c = record { fits = omega (arith, most _ c.words_needed.ensures) }
