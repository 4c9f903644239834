-- What `lamp sheet` prints: the sheet of the records of the play.
use Rattle.std.specs.Prelude.{ℕ, List, [], ◌∷◌, Result, Ok, Err}
use Rattle.sheet.specs.Play.{key_of}
use Rattle.words.specs.Reading.{expected_number, play_read}
use Rattle.words.specs.declared.fault.Fault.{Fault}

abbrev pub key_in : Result (List ℕ) Fault → List ℕ → Result ℕ Fault × List ℕ
key_in (Ok records) out = (Ok (key_of records out).0, (key_of records out).1)
key_in (Err fault) out = (Err fault, out)

-- a text that is at fault leaves the room as it was
abbrev pub sheet_of_text : List ℕ → List ℕ → Result ℕ Fault × List ℕ
sheet_of_text text out = key_in (play_read text) out

-- its number, of the table of faults (docs/WORDS.md): 0 where there is a sheet
abbrev pub sheet_number : Result ℕ Fault → ℕ
sheet_number (Ok length) = 0
sheet_number (Err fault) = expected_number fault.expected

-- the bytes of the sheet; or the line and the column of the fault
abbrev pub sheet_values : Result ℕ Fault → List ℕ
sheet_values (Ok length) = length ∷ []
sheet_values (Err fault) = fault.line ∷ fault.column ∷ []

-- the same of a text that is read
abbrev pub values_in : Result (List ℕ) Fault → List ℕ → List ℕ
values_in (Ok records) out = (key_of records out).0 ∷ []
values_in (Err fault) out = fault.line ∷ fault.column ∷ []
