-- The one refusal.
use Rattle.replay.specs.declared.TooShort.{TooShort}

abbrev pub too_short : TooShort
too_short = record {}
