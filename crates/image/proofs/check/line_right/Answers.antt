-- At a phase only its own line of the rule can hold.
use Rattle.std.proofs.Common.{inl, inr}
use Rattle.rules.specs.Damaged.{phase_line}
use mathlib.Core.Bool.{or-false}
use Rattle.image.proofs.check.line_right.Goals as goal

pub returns-in-Idle : goal.returns-in-Idle
unfolding phase_line
returns-in-Idle c = rw c.in-Idle.is (simp or-false)

pub returns-in-Loaded : goal.returns-in-Loaded
unfolding phase_line
returns-in-Loaded c = elim c.in-Loaded.is [ inl e ↦ rw e (simp or-false) | inr e ↦ rw e (simp or-false) ]

pub returns-in-Collecting : goal.returns-in-Collecting
unfolding phase_line
returns-in-Collecting c = elim c.in-Collecting.is [ inl e ↦ rw e (simp or-false) | inr d ↦ elim d [ inl e ↦ rw e (simp or-false) | inr e ↦ rw e (simp or-false) ] ]

pub returns-in-Scanning : goal.returns-in-Scanning
unfolding phase_line
returns-in-Scanning c = rw c.in-Scanning.is (simp or-false)

pub returns-in-Freeing : goal.returns-in-Freeing
unfolding phase_line
returns-in-Freeing c = rw c.in-Freeing.is
