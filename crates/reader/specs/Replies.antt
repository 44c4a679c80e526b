-- Requests 7 and 9: what is answered, as the cases of a reply, and what stands in lent memory afterwards. Assumes nothing.
use Rattle.std.specs.Prelude.{ℕ, zero, suc, cond, List, [], ◌∷◌, ◌++◌, length, drop, get_or, eqb, ltb}
use Prim.Native.Char.{code}
use Rattle.origins.specs.declared.Went.{Went}
use Rattle.origins.specs.declared.Form.{Form}
use Rattle.origins.specs.declared.Form.TheVariants.{Ol, Om}
use Rattle.origins.specs.Form.{Shape, size_of}
use Rattle.origins.specs.Read.{went_in, Said, says, wrong}
use Rattle.origins.specs.Answers.{Lines, found, refused, Turned, turned, denied}
use Rattle.std.specs.declared.result.Result.{Result}
use Rattle.reader.specs.declared.Refusal.{Refusal}
use Rattle.reader.specs.declared.Refusal.TheVariants.{Cut, WrongMark, OutOfOrder, UnknownFate, Disagree, Unfit, Short, NoRoom}
use Rattle.std.specs.declared.result.Result.TheVariants.{Ok, Err}

-- what is answered: how much there is, or why there is nothing
abbrev pub Reply : Type 0
Reply = Result ℕ Refusal

-- the number of an answer, and its place: the record, or how much room is needed
abbrev pub reply_number : Reply → ℕ
reply_number (Ok i) = 0
reply_number (Err (Cut i)) = 1
reply_number (Err (WrongMark i)) = 2
reply_number (Err (OutOfOrder i)) = 3
reply_number (Err (UnknownFate i)) = 4
reply_number (Err (Disagree i)) = 5
reply_number (Err (Unfit i)) = 6
reply_number (Err (Short i)) = 7
reply_number (Err (NoRoom i)) = 6

abbrev pub reply_place : Reply → ℕ
reply_place (Ok i) = 0
reply_place (Err (Cut i)) = i
reply_place (Err (WrongMark i)) = i
reply_place (Err (OutOfOrder i)) = i
reply_place (Err (UnknownFate i)) = i
reply_place (Err (Disagree i)) = i
reply_place (Err (Unfit i)) = i
reply_place (Err (Short i)) = i
reply_place (Err (NoRoom i)) = i

-- how much there is: records, lines or bytes
abbrev pub reply_count : Reply → ℕ
reply_count (Ok i) = i
reply_count (Err e) = 0

-- a refusal by its number: 1 to 5 of the file, 6 a record that the other form cannot write, 7 too little room
abbrev pub refusal : ℕ → ℕ → Reply
refusal c i =
    cond (eqb c 1) (Err (Cut i))
    (cond (eqb c 2) (Err (WrongMark i))
    (cond (eqb c 3) (Err (OutOfOrder i))
    (cond (eqb c 4) (Err (UnknownFate i))
    (cond (eqb c 5) (Err (Disagree i))
    (cond (eqb c 6) (Err (Unfit i))
    (Err (Short i)))))))

-- lent memory d with xs at its front, the rest as it was
abbrev pub at_front : List ℕ → List ℕ → List ℕ
at_front xs d = xs ++ drop (length xs) d

-- the check: how many records
abbrev pub check_reply : Said → Reply
check_reply (says ws) = Ok (length ws)
check_reply (wrong c i) = refusal c i

-- the lines behind an output line: how many; 6 is too little room
abbrev pub lines_reply : Lines → Reply
lines_reply (found ls) = Ok (length ls)
lines_reply (refused c i) = cond (eqb c 6) (Err (NoRoom i)) (refusal c i)

abbrev pub lines_after : Lines → List ℕ → List ℕ
lines_after (found ls) d = at_front ls d
lines_after (refused c i) d = d

-- the other form: how many bytes
abbrev pub turned_reply : Turned → Reply
turned_reply (turned t) = Ok (length t)
turned_reply (denied c i) = refusal c i

abbrev pub turned_after : Turned → List ℕ → List ℕ
turned_after (turned t) d = at_front t d
turned_after (denied c i) d = d

-- the form that a file shows by the second byte of its first mark; `OL` where it shows none
abbrev pub form_in : List ℕ → Form
form_in s = cond (eqb (get_or s 1 0) (code "M")) Om Ol

-- what the whole records of a file say, one after another; n bounds their number
unfoldable pub wents_from : Shape → ℕ → List ℕ → List Went
unfolding went_in
wents_from F zero s = []
wents_from F (suc n) s = cond (ltb (length s) (size_of F)) [] (went_in F s ∷ wents_from F n (drop (size_of F) s))

unfoldable pub wents_in : Shape → List ℕ → List Went
unfolding wents_from
wents_in F s = wents_from F (length s) s
