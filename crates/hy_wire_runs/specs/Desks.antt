-- The mailboxes of a run.
use Rattle.std.specs.Prelude.{◌≡◌, ◌<◌, ◌≤◌, ℕ, List, [], ◌∷◌}
use Rattle.hy_frame.specs.declared.writer.WriterState.TheVariants.{Initial}
use Rattle.hy_mail.specs.declared.plan.BoxPlan.{BoxPlan}
use Rattle.hy_mail.specs.Desks.{DeskState, fresh_desk, word_of}
use Rattle.hy_mail.specs.DeskLaws.{AreAsMade}

-- each mailbox is for frames of rows of two fields: task 0 puts into it, and task 1 takes from it
abbrev pub plan_to : ℕ → BoxPlan
plan_to m = record { senders = 0 ∷ []; receiver = 1; capacity = 20; arity = 2 }

abbrev pub four_plans : List BoxPlan
four_plans = plan_to 0 ∷ plan_to 1 ∷ plan_to 2 ∷ plan_to 3 ∷ []

-- its mailboxes are four of these
abbrev pub IsDesk : DeskState → Type 0
IsDesk d = AreAsMade (fresh_desk four_plans) d

-- nothing was put yet from this mailbox on
abbrev pub AreFree : ℕ → DeskState → Type 0
AreFree n d = (m : ℕ) → n ≤ m → m < 4 → word_of d 0 m ≡ Initial

-- the writer's words have come no further
abbrev pub KeepsWords : DeskState → DeskState → Type 0
KeepsWords d e = (m : ℕ) → word_of e 0 m ≡ word_of d 0 m
