-- 01, The image: what set-up writes; and its replies, 0, 12 and 13.
use Rattle.std.specs.Prelude.{cond, List, [], ◌∷◌, ◌++◌, ℕ, zero, suc, length, replicate, eqb}
use Rattle.rules.specs.declared.Settings.{Settings}
use Rattle.rules.specs.Settings.{legal, settings_words}
use Rattle.rules.specs.Image.{sections, size, words, Outcome, outcome}

-- the section of the publish counts
abbrev pub counts_section : ℕ
counts_section = 6

-- a section's words: the settings, S in every publish count, 0 elsewhere
unfoldable pub fresh_section : Settings → ℕ → List ℕ
fresh_section S zero = settings_words S
fresh_section S (suc k) = replicate (size S (suc k)) (cond (eqb (suc k) counts_section) S.start 0)

-- the first k sections, each after its count
unfoldable pub fresh_up_to : Settings → ℕ → List ℕ
fresh_up_to S zero = []
fresh_up_to S (suc k) = fresh_up_to S k ++ (size S k ∷ fresh_section S k)

unfoldable pub fresh : Settings → List ℕ
fresh S = fresh_up_to S sections

-- the number that set-up gives for a buffer of n words
unfoldable pub set_up_number : Settings → ℕ → ℕ
set_up_number S n = cond (legal S) (cond (eqb n (words S)) 0 13) 12

unfoldable pub set_up : Settings → List ℕ → Outcome
set_up S I = outcome (set_up_number S (length I)) 0 (cond (eqb (set_up_number S (length I)) 0) (fresh S) I)

-- how long a buffer these settings need, 0 where they are refused
unfoldable pub words_needed : Settings → ℕ
words_needed S = cond (legal S) (words S) 0
