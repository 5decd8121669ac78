-- Fronts of the words that senders put: what was taken without a Fail was put before one, and nothing comes behind a Close.
use Rattle.std.proofs.Common.{◌≡◌, true, false, List, [], ◌∷◌, ◌++◌, refl, ap, sym, ◌∙◌}
use Rattle.std.specs.List.{AllByRecursion, list_any}
use Rattle.hy_rest.specs.Words.{Signal, Open, Rows, Fail, Close, is_fail, is_close, IsWordOnceOpen, WriterWord}
use Rattle.hy_job.proofs.Members.{no_bool}

module _ {A : Type 0} where
  abbrev pub NoFail : List (Signal A) → Type 0
  NoFail = AllByRecursion (λ s. is_fail s ≡ false)

  abbrev tail_of : List (Signal A) → List (Signal A)
  tail_of [] = []
  tail_of (s ∷ ss) = ss

  abbrev head_of : Signal A → List (Signal A) → Signal A
  head_of d [] = d
  head_of d (s ∷ ss) = s

  -- what was taken of a word without its Fail is a front of what stands before the Fail
  pub front_of : (taken more put : List (Signal A)) → NoFail taken → taken ++ more ≡ put ++ Fail ∷ Close ∷ [] → (rest : List (Signal A)) × (put ≡ taken ++ rest)
  front_of [] more put h e = (put, refl)
  front_of (s ∷ taken) more [] h e = absurd (no_bool (sym (ap is_fail (ap (head_of s) e)) ∙ h.0))
  front_of (s ∷ taken) more (p ∷ put) h e =
      let next = front_of taken more put h.1 (ap tail_of e) in
      (next.0, λ i. sym (ap (head_of s) e) i ∷ next.1 i)

  -- ---- closed words

  closed_open : (taken more : List (Signal A)) → NoFail taken → list_any is_close taken ≡ true → IsWordOnceOpen (taken ++ more) → more ≡ []
  closed_open [] more h c w = absurd (no_bool (sym c))
  closed_open (Open ∷ taken) more h c w = absurd w
  closed_open (Rows rows ∷ taken) more h c w = closed_open taken more h.1 c w
  closed_open (Fail ∷ taken) more h c w = absurd (no_bool h.0)
  closed_open (Close ∷ []) [] h c w = refl
  closed_open (Close ∷ []) (m ∷ more) h c w = absurd w
  closed_open (Close ∷ t ∷ taken) more h c w = absurd w

  -- a word of which a Close was taken, and no Fail, was taken whole
  pub closed_whole : (taken more : List (Signal A)) → NoFail taken → list_any is_close taken ≡ true → WriterWord (taken ++ more) → more ≡ []
  unfolding WriterWord
  closed_whole [] more h c w = absurd (no_bool (sym c))
  closed_whole (Open ∷ taken) more h c w = closed_open taken more h.1 c w
  closed_whole (Rows rows ∷ taken) more h c w = absurd w
  closed_whole (Fail ∷ taken) more h c w = absurd w
  closed_whole (Close ∷ taken) more h c w = absurd w

  ended_open : (word : List (Signal A)) → IsWordOnceOpen word → list_any is_close word ≡ true
  ended_open [] w = absurd w
  ended_open (Open ∷ word) w = absurd w
  ended_open (Rows rows ∷ word) w = ended_open word w
  ended_open (Fail ∷ []) w = absurd w
  ended_open (Fail ∷ Open ∷ word) w = absurd w
  ended_open (Fail ∷ Rows rows ∷ word) w = absurd w
  ended_open (Fail ∷ Fail ∷ word) w = absurd w
  ended_open (Fail ∷ Close ∷ word) w = refl
  ended_open (Close ∷ word) w = refl

  -- each word has a Close
  pub word_closes : (word : List (Signal A)) → WriterWord word → list_any is_close word ≡ true
  unfolding WriterWord
  word_closes [] w = absurd w
  word_closes (Open ∷ word) w = ended_open word w
  word_closes (Rows rows ∷ word) w = absurd w
  word_closes (Fail ∷ word) w = absurd w
  word_closes (Close ∷ word) w = absurd w
