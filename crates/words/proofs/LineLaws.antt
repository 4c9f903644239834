-- Steps from line to line.
use Rattle.std.proofs.Common.{ℕ, suc, ◌≡◌, ◌+◌, ◌<◌, Bool, true, false, List, [], ◌∷◌, length, refl, sym, ap, ◌∙◌, drop, arith, nat_eq}
use Rattle.std.specs.Prelude.{Ok, Err}
use Rattle.std.specs.List.{prefix_len}
use Rattle.words.specs.Lexis.{first_line, after_line, is_other}
use Rattle.words.specs.Reading.{line_read, line_then, lines_of, lines_read, put_before, whole}
use Rattle.words.specs.declared.fault.Fault.{Fault}

-- the lines behind a line, of what stands from its line feed on
abbrev pub more_lines : List ℕ → List (List ℕ)
more_lines [] = []
more_lines (b ∷ s) = lines_of s

by_byte : (b : ℕ) (s : List ℕ) (test : Bool) → nat_eq b 10 ≡ test → lines_of s ≡ first_line s ∷ more_lines (after_line s)
    → lines_of (b ∷ s) ≡ first_line (b ∷ s) ∷ more_lines (after_line (b ∷ s))
unfolding lines_of
by_byte b s true e h = rw e refl
by_byte b s false e h =
    let next : 1 + prefix_len (is_other 10) s ≡ suc (prefix_len (is_other 10) s) = omega arith in
    rw (e, next) (ap (put_before b) h)

pub lines_step : (s : List ℕ) → lines_of s ≡ first_line s ∷ more_lines (after_line s)
unfolding lines_of
lines_step [] = refl
lines_step (b ∷ s) = by_byte b s (nat_eq b 10) refl (lines_step s)

read_step : (before : List ℕ) (n : ℕ) (l m : List ℕ) (ls : List (List ℕ)) → lines_read before n (l ∷ (m ∷ ls)) ≡ line_then (line_read before n l) (λ s. lines_read s (suc n) (m ∷ ls))
unfolding lines_read
read_step before n l m ls = refl

read_last : (before : List ℕ) (n : ℕ) (l : List ℕ) → lines_read before n (l ∷ []) ≡ line_then (line_read before n l) (whole n l)
unfolding lines_read
read_last before n l = refl

more_behind : (s : List ℕ) → 0 < length s → more_lines s ≡ lines_of (drop 1 s)
more_behind [] h = absurd (omega (arith, h))
more_behind (b ∷ s) h = refl

none_behind : (s : List ℕ) → length s ≡ 0 → more_lines s ≡ []
none_behind [] h = refl
none_behind (b ∷ s) h = absurd (omega (arith, h))

-- a line that is right, and a line feed
pub goes_on : (before next : List ℕ) (n : ℕ) (s : List ℕ) → 0 < length (after_line s) → line_read before n (first_line s) ≡ Ok next
    → lines_read before n (lines_of s) ≡ lines_read next (n + 1) (lines_of (drop 1 (after_line s)))
goes_on before next n s e h =
    let number : suc n ≡ n + 1 = omega arith in
    let rest : List ℕ = drop 1 (after_line s) in
    ap (lines_read before n) (lines_step s ∙ ap (λ r. first_line s ∷ r) (more_behind (after_line s) e))
    ∙ (ap (λ ls. lines_read before n (first_line s ∷ ls)) (lines_step rest)
    ∙ (read_step before n (first_line s) (first_line rest) (more_lines (after_line rest))
    ∙ (ap (λ r. line_then r (λ s. lines_read s (suc n) (first_line rest ∷ more_lines (after_line rest)))) h
    ∙ (ap (lines_read next (suc n)) (sym (lines_step rest)) ∙ ap (λ m. lines_read next m (lines_of rest)) number))))

-- the last line
pub ends : (before next : List ℕ) (n : ℕ) (s : List ℕ) → length (after_line s) ≡ 0 → line_read before n (first_line s) ≡ Ok next
    → lines_read before n (lines_of s) ≡ whole n (first_line s) next
ends before next n s e h =
    ap (lines_read before n) (lines_step s ∙ ap (λ r. first_line s ∷ r) (none_behind (after_line s) e))
    ∙ (read_last before n (first_line s) ∙ ap (λ r. line_then r (whole n (first_line s))) h)

failing : (before : List ℕ) (n : ℕ) (l : List ℕ) (ls : List (List ℕ)) (f : Fault) → line_read before n l ≡ Err f → lines_read before n (l ∷ ls) ≡ Err f
failing before n l [] f h = read_last before n l ∙ ap (λ r. line_then r (whole n l)) h
failing before n l (m ∷ ls) f h = read_step before n l m ls ∙ ap (λ r. line_then r (λ s. lines_read s (suc n) (m ∷ ls))) h

-- a line that is at fault
pub fails : (before : List ℕ) (n : ℕ) (s : List ℕ) (f : Fault) → line_read before n (first_line s) ≡ Err f → lines_read before n (lines_of s) ≡ Err f
fails before n s f h = ap (lines_read before n) (lines_step s) ∙ failing before n (first_line s) (more_lines (after_line s)) f h
