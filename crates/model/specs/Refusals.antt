-- The numbers of refusals, and how a fault becomes one. Assumes nothing.
use Rattle.std.specs.Prelude.{ℕ}
use Rattle.tokens.specs.declared.token.Cause.{Cause}
use Rattle.tokens.specs.declared.token.Cause.TheVariants as causes
use Rattle.tokens.specs.declared.token.Fault.{Fault}
use Rattle.model.specs.declared.refusal.Reason.{Reason}
use Rattle.model.specs.declared.refusal.Reason.TheVariants.{TooLong, ZeroByte, OpenComment, LongName, Fifth, Sixth, Seventh, Eighth, Ninth, GramLength, RunLength, NumberZero, NumberHeld, TooManyFiles, WorkShort, TokensFull, IndexFull, RemoveUnheld, ReportUnheld, ReportFull, HeldShort, FileUnread}
use Rattle.model.specs.declared.refusal.Refusal.{Refusal}

abbrev pub reason_number : Reason → ℕ
reason_number TooLong = 1
reason_number ZeroByte = 2
reason_number OpenComment = 3
reason_number LongName = 4
reason_number Fifth = 5
reason_number Sixth = 6
reason_number Seventh = 7
reason_number Eighth = 8
reason_number Ninth = 9
reason_number GramLength = 11
reason_number RunLength = 12
reason_number NumberZero = 21
reason_number NumberHeld = 22
reason_number TooManyFiles = 23
reason_number WorkShort = 24
reason_number TokensFull = 25
reason_number IndexFull = 26
reason_number RemoveUnheld = 31
reason_number ReportUnheld = 41
reason_number ReportFull = 42
reason_number HeldShort = 61
reason_number FileUnread = 71

-- a refusal that is no fault has neither place nor depth
abbrev pub plain : Reason → Refusal
plain r = record { reason = r; place = 0; depth = 0 }

-- a cause is the reason of its number
abbrev pub of_cause : Cause → Reason
of_cause causes.TooLong = TooLong
of_cause causes.ZeroByte = ZeroByte
of_cause causes.OpenComment = OpenComment
of_cause causes.LongName = LongName
of_cause causes.Fifth = Fifth
of_cause causes.Sixth = Sixth
of_cause causes.Seventh = Seventh
of_cause causes.Eighth = Eighth
of_cause causes.Ninth = Ninth

-- a fault is handed on whole, its cause being the reason
abbrev pub handed_on : Fault → Refusal
handed_on f = record { reason = of_cause f.cause; place = f.place; depth = f.depth }
