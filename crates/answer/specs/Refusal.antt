-- What a refusal says: document 01's number, and where. What the code's `Cause` and `Refusal` mean by it.
use Rattle.std.specs.Prelude.{ℕ, ◌≡◌}
use Rattle.answer.specs.declared.Cause.{Cause}
use Rattle.answer.specs.declared.Cause.TheVariants.{
  TooLong,
  PastEnd,
  NotUtf8,
  PacketSize,
  Trailing,
  Inconsistent,
  Padding,
  NoRoom,
  BadTable,
  NoKex,
  NoKey,
  NoCipher,
  NoMac,
  NoCompression,
}
use Rattle.answer.specs.declared.Refusal.{Refusal as Answered}

pub record Refusal : Type 0 where
  pub offset : ℕ
  pub number : ℕ

-- "Numbers a refusal carries"
abbrev pub number : Cause → ℕ
number TooLong = 1
number PastEnd = 2
number NotUtf8 = 3
number PacketSize = 4
number Trailing = 5
number Inconsistent = 6
number Padding = 7
number NoRoom = 8
number BadTable = 9
number NoKex = 10
number NoKey = 11
number NoCipher = 12
number NoMac = 13
number NoCompression = 14

abbrev pub told : Answered → Refusal
told r = record { offset = r.offset; number = number r.cause }

-- what no field offends has offset 0
abbrev pub IsAtFront : Cause → Answered → Type 0
IsAtFront c r = r ≡ record { offset = 0; cause = c }
