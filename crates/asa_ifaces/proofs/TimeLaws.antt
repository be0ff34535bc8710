-- A timeout line word by word.
use Rattle.std.proofs.Common.{◌≡◌, ◌==◌, ℕ, ◌<◌, ◌≤◌, List, [], ◌∷◌, length, Option, Some, None, Ok, Err, refl, ap, subst, arith}
use Rattle.std.proofs.lemmas.List.Splits.{length-slice_split}
use Rattle.asa_text.specs.Words.{Left, Spelled}
use Rattle.asa_text.specs.Readers.{Read, ◌>>=◌, word_at, next_word, after_one}
use Rattle.asa_ifaces.specs.declared.iface.Timeouts.{Timeouts}
use Rattle.asa_ifaces.specs.declared.timeouts.Timed.{Timed}
use Rattle.asa_text.specs.declared.readers.LineFault.TheVariants.{Bad}
use Rattle.asa_ifaces.specs.Times.{colon_runs, timed_of, time_at, time_of, time_or_bad, passed_or_set, with_time, after_timed, after_word, times_of, times_at, ended}

-- each word has a run
pub runs_some : (word : List ℕ) → 0 < length (colon_runs word)
runs_some word = omega (arith, length-slice_split (λ b. b == 58) word)

-- the times after a word and what follows it
pub times_next : (t : Timeouts) (w : Spelled) (more : List Spelled) (end : ℕ)
    → times_at t (record { words = w ∷ more; end = end }) ≡ (after_word t w.word (record { words = more; end = end }) >>= (λ (next, left). times_at next left))
unfolding times_at times_of after_word time_at word_at
times_next t w [] end = by (timed_of w.word)
  where
    by : (timed : Option Timed) → passed_or_set timed (Ok (t, ended end)) (λ _. Err (Bad end)) ≡ (after_timed t (ended end) timed >>= (λ (next, left). times_at next left))
    by None = refl
    by (Some timed) = refl
times_next t w (v ∷ more) end = by (timed_of w.word)
  where
    after : Left
    after = record { words = v ∷ more; end = end }

    set : (timed : Timed) (time : Option ℕ) → (time_or_bad v.column (record { words = more; end = end }) time >>= (λ (seconds, _). times_of end (with_time t timed seconds) more))
        ≡ ((time_or_bad v.column (record { words = more; end = end }) time >>= λ (seconds, rest). Ok (with_time t timed seconds, rest)) >>= (λ (next, left). times_at next left))
    set timed None = refl
    set timed (Some seconds) = refl

    by : (timed : Option Timed) → passed_or_set timed (times_of end t (v ∷ more)) (λ timed. time_at after >>= (λ (seconds, _). times_of end (with_time t timed seconds) more))
        ≡ (after_timed t after timed >>= (λ (next, left). times_at next left))
    by None = refl
    by (Some timed) = set timed (time_of v.word)

-- a line without words leaves the times as they are
pub times_end : (t : Timeouts) (end : ℕ) → times_at t (record { words = []; end = end }) ≡ Ok (t, record { words = []; end = end })
unfolding times_at times_of
times_end t end = refl

abbrev read_of : Timeouts → Left → Read Timeouts
read_of t left = Ok (t, left)

-- a word takes nothing from those that follow it, but for its time
pub words_after : (t : Timeouts) (word : List ℕ) (left : Left) (next : Timeouts) (rest : Left)
    → after_word t word left ≡ Ok (next, rest) → length rest.words ≤ length left.words
unfolding after_word time_at word_at
words_after t word left next rest e = by (timed_of word) e
  where
    is_left : (t2 : Timeouts) (l : Left) → read_of t2 l ≡ read_of next rest → l ≡ rest
    is_left t2 l e =
        let given : (Timeouts × Left) = (t2, l) in
        let pair : given ≡ (next, rest) = cc in
        ap (λ (p : Timeouts × Left). p.1) pair

    from_time : (timed : Timed) (column : ℕ) (l : Left) (time : Option ℕ)
        → (time_or_bad column l time >>= λ (seconds, rest). Ok (with_time t timed seconds, rest)) ≡ Ok (next, rest) → l ≡ rest
    from_time timed column l None e = absurd (cc)
    from_time timed column l (Some seconds) e = is_left (with_time t timed seconds) l e

    from_words : (timed : Timed) (words : List Spelled)
        → (time_at (record { words = words; end = left.end }) >>= λ (seconds, rest). Ok (with_time t timed seconds, rest)) ≡ Ok (next, rest)
        → length rest.words ≤ length words
    from_words timed [] e = absurd (cc)
    from_words timed (v ∷ more) e =
        subst (λ (l : Left). length l.words ≤ length (v ∷ more)) (from_time timed v.column (record { words = more; end = left.end }) (time_of v.word) e) (omega arith)

    by : (timed : Option Timed) → after_timed t left timed ≡ Ok (next, rest) → length rest.words ≤ length left.words
    by None e = subst (λ (l : Left). length l.words ≤ length left.words) (is_left t left e) (omega arith)
    by (Some timed) e = from_words timed left.words e

-- a word that was taken is no longer among the words
pub next_fewer : (left taken rest : Left) (w : Spelled) → Some w ≡ next_word left → taken ≡ after_one left → length rest.words ≤ length taken.words
    → length rest.words < length left.words
next_fewer left taken rest w e was few = by left.words e (subst (λ (l : Left). length rest.words ≤ length l.words) was few)
  where
    by : (words : List Spelled) → Some w ≡ next_word (record { words = words; end = left.end })
        → length rest.words ≤ length (after_one (record { words = words; end = left.end })).words → length rest.words < length words
    by [] e few = absurd (cc)
    by (v ∷ more) e few = omega (arith, few)
