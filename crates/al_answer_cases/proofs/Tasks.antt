-- Records of two partitions, task by task: words, and whole words for one receiver.
use Rattle.std.proofs.Common.{◌≡◌, ◌<◌, ℕ, false, List, [], refl, sym, subst, arith}
use Rattle.std.specs.List.{All}
use Rattle.std.proofs.lemmas.List.Elements.{All-from_recursion}
use Rattle.hy_rest.specs.Words.{WriterWord, is_fail}
use Rattle.hy_job.specs.Columns.{Row}
use Rattle.hy_job.specs.Settled.{Take}
use Rattle.hy_job.specs.SettledCases.{word_of}
use Rattle.hy_job.proofs.Settling.{below_two}
use Rattle.al_answer_cases.specs.RecordCases.{for_one}

pub no_fail : (rows : List Row) → All (λ s. is_fail s ≡ false) (word_of rows)
no_fail rows = All-from_recursion (λ s. is_fail s ≡ false) (word_of rows) (refl, (refl, (refl, tt)))

pub nothing_taken : (P : Take → Type 0) → All P []
nothing_taken P k d lt = absurd (omega (arith, lt))

pub fails_none : (home : ℕ) → home < 2 → (rows : List Row) (to : ℕ) → to ≡ home → All (λ s. is_fail s ≡ false) (for_one home rows to)
fails_none = below_two _ (λ rows to is. subst (λ x. All (λ s. is_fail s ≡ false) (for_one 0 rows x)) (sym is) (no_fail rows)) (λ rows to is. subst (λ x. All (λ s. is_fail s ≡ false) (for_one 1 rows x)) (sym is) (no_fail rows))

-- what is put for one receiver alone is a word for it, and nothing for the other
pub words_for : (home : ℕ) → home < 2 → (rows : List Row) → ((to : ℕ) → to < 2 → to ≡ home → WriterWord (for_one home rows to)) × ((to : ℕ) → to < 2 → (to ≡ home → ⊥) → for_one home rows to ≡ [])
unfolding WriterWord
words_for = below_two _ (λ rows. (λ to lt is. subst (λ x. WriterWord (for_one 0 rows x)) (sym is) tt, below_two _ (λ other. absurd (other refl)) (λ other. refl)))
    (λ rows. (λ to lt is. subst (λ x. WriterWord (for_one 1 rows x)) (sym is) tt, below_two _ (λ other. refl) (λ other. absurd (other refl))))

-- a claim of each sender and each receiver
pub by_two : (P : ℕ → ℕ → Type 0) → P 0 0 → P 0 1 → P 1 0 → P 1 1 → (s r : ℕ) → s < 2 → r < 2 → P s r
by_two P a b c d s r ls lr = below_two (λ s. (r : ℕ) → r < 2 → P s r) (below_two _ a b) (below_two _ c d) s ls r lr
