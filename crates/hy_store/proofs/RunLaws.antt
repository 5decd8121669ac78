-- What a store's user goes by.
use Rattle.std.proofs.Common.{◌≡◌, ◌≢◌, ℕ, zero, suc, ◌+◌, ◌<◌, ◌≤◌, Bool, true, false, not, ◌⊎◌, List, [], ◌∷◌, ◌++◌, length, Option, Some, None, refl, sym, ap, subst, ◌∙◌, inl, inr, arith}
use Rattle.std.specs.Prelude.{nat_eq, is_some, slice_get}
use Rattle.std.specs.List.{All, Contains}
use Rattle.std.proofs.lemmas.Bool.{cases_Bool}
use Rattle.std.proofs.lemmas.Bool.Decides.{nat_tests}
use Rattle.std.proofs.lemmas.List.Elements.{Contains-append_left, Contains-append_right, All-nil, All-push}
use Rattle.al_value.specs.Outside.{Told}
use Rattle.hy_frame.specs.Frame.{FrameOf}
use Rattle.hy_store.specs.Runs.{Held, RunsOf, IsLive, HaveShape, IsFrameAt, Others, Created, Grown, Removed, without}
use Rattle.hy_store.specs.Laws.{CreatedIsLive, GrownIsLive, RemovedIsNot, CreatedHasShape, GrownHasShape, OthersHaveShape, LastIsFound}

pub created_is_live : CreatedIsLive
created_is_live run old new made = (
  subst (λ l. Contains l run) (sym made.live) (Contains-append_right old.live (run ∷ []) run (0, omega arith, refl)),
  λ r h. subst (λ l. Contains l r) (sym made.live) (Contains-append_left old.live (run ∷ []) r h),
)

pub grown_is_live : GrownIsLive
grown_is_live run r frame old new grew h = subst (λ l. Contains l r) (sym grew.live) h

here : (x : ℕ) (live : List ℕ) → Contains (x ∷ live) x
here x live = (0, omega arith, refl)

later : (x r : ℕ) (live : List ℕ) → Contains live r → Contains (x ∷ live) r
later x r live h = (suc h.0, omega (arith, h.1), h.2)

is_here : (x r : ℕ) (live : List ℕ) → Contains (x ∷ live) r → (x ≡ r) ⊎ Contains live r
is_here x r live (zero, lt, e) = inl e
is_here x r live (suc k, lt, e) = inr (k, omega (arith, lt), e)

differ : (x run : ℕ) → nat_eq x run ≡ false → x ≡ run → ⊥
differ x run other e = grind (arith, nat_tests)

not_there : (live : List ℕ) (run : ℕ) → ¬ Contains (without run live) run
not_there [] run h = absurd (omega (arith, h.1))
not_there (x ∷ live) run h = elim (cases_Bool (nat_eq x run)) [
  | inl same ↦ not_there live run (rw same at h)
  | inr other ↦ elim (is_here x run (without run live) (rw other at h)) [
    | inl e ↦ absurd (differ x run other e)
    | inr rest ↦ not_there live run rest
  ]
]

still_there : (live : List ℕ) (run r : ℕ) → r ≢ run → Contains live r → Contains (without run live) r
still_there [] run r ne h = absurd (omega (arith, h.1))
still_there (x ∷ live) run r ne h = elim (is_here x r live h) [
  | inl e ↦
      let other : nat_eq x run ≡ false = grind (arith, nat_tests) in
      rw other (subst (λ y. Contains (y ∷ without run live) r) (sym e) (here r (without run live)))
  | inr rest ↦ elim (cases_Bool (nat_eq x run)) [
    | inl same ↦ rw same (still_there live run r ne rest)
    | inr other ↦ rw other (later x r (without run live) (still_there live run r ne rest))
  ]
]

was_there : (live : List ℕ) (run r : ℕ) → Contains (without run live) r → Contains live r
was_there [] run r h = absurd (omega (arith, h.1))
was_there (x ∷ live) run r h = elim (cases_Bool (nat_eq x run)) [
  | inl same ↦ later x r live (was_there live run r (rw same at h))
  | inr other ↦ elim (is_here x r (without run live) (rw other at h)) [
    | inl e ↦ subst (λ y. Contains (y ∷ live) r) (sym e) (here r live)
    | inr rest ↦ later x r live (was_there live run r rest)
  ]
]

pub removed_is_not : RemovedIsNot
removed_is_not run old new gone = (
  λ h. not_there old.live run (subst (λ l. Contains l run) gone.live h),
  λ r ne h. subst (λ l. Contains l r) (sym gone.live) (still_there old.live run r ne h),
  λ r h. was_there old.live run r (subst (λ l. Contains l r) gone.live h),
)

-- what holds of what is told
shapes : ℕ → ℕ → FrameOf → Type 0
shapes arity unit frame = (frame.arity ≡ arity) × (frame.unit ≡ unit)

empty_shape : (run arity unit : ℕ) (held : Option Held) → Told held (λ g. g run ≡ []) → Told held (λ f. All (shapes arity unit) (f run))
empty_shape run arity unit None h = tt
empty_shape run arity unit (Some g) h = subst (All (shapes arity unit)) (sym h) (All-nil (shapes arity unit))

pub created_has_shape : CreatedHasShape
unfolding shapes
created_has_shape run arity unit old new made = empty_shape run arity unit new.held made.held

grown_shape : (run : ℕ) (frame : FrameOf) (o n : Option Held) → is_some n ≡ is_some o
    → Told o (λ f. Told n (λ g. g run ≡ f run ++ frame ∷ []))
    → Told o (λ f. All (shapes frame.arity frame.unit) (f run)) → Told n (λ g. All (shapes frame.arity frame.unit) (g run))
unfolding shapes
grown_shape run frame o None same more h = tt
grown_shape run frame None (Some g) same more h = absurd (cc)
grown_shape run frame (Some f) (Some g) same more h =
    subst (All (shapes frame.arity frame.unit)) (sym more) (All-push (shapes frame.arity frame.unit) (f run) frame h (refl, refl))

pub grown_has_shape : GrownHasShape
unfolding shapes
grown_has_shape run frame old new h grew = grown_shape run frame old.held new.held grew.others.tells grew.held h

others_shape : (run r arity unit : ℕ) (o n : Option Held) → r ≢ run → is_some n ≡ is_some o
    → Told o (λ f. Told n (λ g. (r : ℕ) → r ≢ run → g r ≡ f r))
    → Told o (λ f. All (shapes arity unit) (f r)) → Told n (λ g. All (shapes arity unit) (g r))
others_shape run r arity unit o None ne same more h = tt
others_shape run r arity unit None (Some g) ne same more h = absurd (cc)
others_shape run r arity unit (Some f) (Some g) ne same more h = subst (All (shapes arity unit)) (sym (more r ne)) h

pub others_have_shape : OthersHaveShape
unfolding shapes
others_have_shape run r arity unit old new ne others h = others_shape run r arity unit old.held new.held ne others.tells others.held h

same_some : (a b : FrameOf) → ◌≡◌ {A = Option FrameOf} (Some a) (Some b) → a ≡ b
same_some a b e = cc

last_of : (frames : List FrameOf) (frame : FrameOf) → slice_get (frames ++ frame ∷ []) (length frames) ≡ Some frame
last_of [] frame = refl
last_of (f ∷ frames) frame = last_of frames frame

last_found : (run n : ℕ) (frame found : FrameOf) (o w : Option Held)
    → is_some w ≡ is_some o → Told o (λ f. length (f run) ≡ n) → Told o (λ f. Told w (λ g. g run ≡ f run ++ frame ∷ []))
    → Told w (λ _. Told w (λ g. slice_get (g run) n ≡ Some found) → found ≡ frame)
last_found run n frame found o None same long more = tt
last_found run n frame found None (Some g) same long more = absurd (cc)
last_found run n frame found (Some f) (Some g) same long more =
    λ is. same_some found frame (sym is ∙ ap (λ l. slice_get l n) more ∙ ap (slice_get (f run ++ frame ∷ [])) (sym long) ∙ last_of (f run) frame)

pub last_is_found : LastIsFound
last_is_found run frame found old new long grew = last_found run (old.count run) frame found old.held new.held grew.others.tells long grew.held
