-- Why a text has no answer.
use Rattle.std.specs.Prelude.{◌≡◌, Some, None, Option}
use Rattle.phase_input.specs.declared.refusal.Refusal.{Refusal}
use Rattle.phase_input.specs.declared.refusal.Refusal.TheVariants.{Text}
use Rattle.text.specs.declared.document.Unread.{Unread}
use Rattle.text.specs.declared.document.Unread.TheVariants as unread
use Rattle.text_lines.specs.declared.flaw.Flaw.{Flaw}
use Rattle.report.specs.declared.unanswered.Unanswered.{Unanswered}
use Rattle.report.specs.declared.unanswered.Unanswered.TheVariants.{Unreadable, Refused, Memory}

abbrev pub unanswered_by : Unread → Unanswered
unanswered_by (unread.Flawed n why) = Unreadable n why
unanswered_by unread.Memory = Memory

-- a line that can't be read is a refusal too
abbrev pub refusal_by : Unanswered → Option Refusal
refusal_by (Unreadable n why) = Some (Text n)
refusal_by (Refused why) = Some why
refusal_by Memory = None

abbrev pub flaw_by : Unanswered → Option Flaw
flaw_by (Unreadable n why) = Some why
flaw_by (Refused why) = None
flaw_by Memory = None

-- that is why, unless there is no memory
abbrev pub Explains : Option Unanswered → Unanswered → Type 0
Explains o (Unreadable n why) = o ≡ Some (Unreadable n why)
Explains o (Refused why) = o ≡ Some (Refused why)
Explains o Memory = Unit {0}
