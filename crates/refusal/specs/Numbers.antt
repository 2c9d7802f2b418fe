-- The numbers of refusals, and the number that a call's answer stands for.
use Rattle.std.specs.Prelude.{ℕ, ◌<◌, Result, Ok, Err}
use Rattle.std.proofs.Common.{arith}
use Rattle.refusal.specs.declared.Refusal.{Refusal}
use Rattle.refusal.specs.declared.Refusal.TheVariants.{NotFramed, NotAddressed, NotInForm, TooManyDetails, BadReference, BadAmount, BadAccount, ManyDates, BadRegister, NoEngine, Misdated, AlreadyAccepted, TooManyMessages, TooManyPositions, OverLimit, OutputTooShort, NotBankingDay, BadHolidays, HasCodes}

-- document 01's number
abbrev pub number_of : Refusal → ℕ
number_of NotFramed = 1
number_of NotAddressed = 2
number_of NotInForm = 3
number_of TooManyDetails = 4
number_of BadReference = 5
number_of BadAmount = 6
number_of BadAccount = 7
number_of ManyDates = 8
number_of BadRegister = 9
number_of NoEngine = 10
number_of Misdated = 11
number_of AlreadyAccepted = 12
number_of TooManyMessages = 13
number_of TooManyPositions = 14
number_of OverLimit = 15
number_of OutputTooShort = 16
number_of NotBankingDay = 17
number_of BadHolidays = 18
number_of HasCodes = 19

-- the number of what refuses, 0 where nothing does
abbrev pub stop_of : {A : Type 0} → Result A Refusal → ℕ
stop_of (Ok v) = 0
stop_of (Err r) = number_of r

pub number_some : (r : Refusal) → 0 < number_of r
number_some NotFramed = omega arith
number_some NotAddressed = omega arith
number_some NotInForm = omega arith
number_some TooManyDetails = omega arith
number_some BadReference = omega arith
number_some BadAmount = omega arith
number_some BadAccount = omega arith
number_some ManyDates = omega arith
number_some BadRegister = omega arith
number_some NoEngine = omega arith
number_some Misdated = omega arith
number_some AlreadyAccepted = omega arith
number_some TooManyMessages = omega arith
number_some TooManyPositions = omega arith
number_some OverLimit = omega arith
number_some OutputTooShort = omega arith
number_some NotBankingDay = omega arith
number_some BadHolidays = omega arith
number_some HasCodes = omega arith
