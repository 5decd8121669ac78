-- What new drivers are as operators.
use Rattle.std.specs.Prelude.{cond}
use Rattle.std.proofs.Math.Dec.{eqb-suc-zero}
use Rattle.std.proofs.Common.{◌≡◌, ◌<◌, ◌↔◌, ℕ, zero, suc, Bool, true, false, true≢false, Option, Some, None, List, [], length, refl, sym, ap, subst, ◌∙◌, arith}
use Rattle.al_value.specs.declared.settings.Settings.{Settings}
use Rattle.hy_frame.specs.Row.{Fields}
use Rattle.hy_driver.specs.Rows.{Row}
use Rattle.hy_driver.specs.Seen.{Fixed, Seen, StoreOf}
use Rattle.hy_driver.specs.Forms.{one_ended}
use Rattle.hy_job.specs.declared.job.Kind.{Kind}
use Rattle.hy_driver.specs.Steps.{IsNew}
use Rattle.hy_job.specs.Drivers.{Left, driver_out}
use Rattle.hy_job.specs.Sound.{inputs}
use Rattle.hy_operator.specs.Begins.{Begins, IsFixed, check_of, cost_of, width_at}
use Rattle.hy_operator.specs.Kinds.{There}
use Rattle.hy_operator.specs.declared.input.RowShape.{RowShape}

-- ---- inputs

-- one input is to come
pub one_goes : (ended : ℕ → Bool) → ((k : ℕ) → ended k ≡ one_ended false k) → (k : ℕ) → (k < 1) ↔ (ended k ≡ false)
one_goes ended is zero = (λ h. is 0, λ h. omega arith)
one_goes ended is (suc k) = (λ h. absurd (omega (arith, h)), λ h. absurd (true≢false (sym (ap (λ b. cond b false true) (eqb-suc-zero k)) ∙ (sym (is (suc k)) ∙ h))))

-- none is
pub none_goes : (ended : ℕ → Bool) → ((k : ℕ) → ended k ≡ true) → (k : ℕ) → (k < 0) ↔ (ended k ≡ false)
none_goes ended is k = (λ h. absurd (omega (arith, h)), λ h. absurd (true≢false (sym (is k) ∙ h)))

-- ---- what a driver was made with

pub fixed_of : (kind : Kind) (settings : Settings) (shape : RowShape) (handed : ℕ) (fixed : Fixed) (width : ℕ → ℕ) (arity : ℕ)
    → fixed ≡ record { unit = settings.frame_size; memory = settings.memory; cost = cost_of kind handed; width = width; arity = arity; check = check_of kind }
    → ((input : ℕ) → input < inputs kind → width input ≡ width_at shape input) → arity ≡ shape.arity → IsFixed kind settings shape handed fixed
fixed_of kind settings shape handed fixed width arity is wide same = record {
  unit = ap (λ (f : Fixed). f.unit) is;
  memory = ap (λ (f : Fixed). f.memory) is;
  cost = ap (λ (f : Fixed). f.cost) is;
  width = λ input lt. ap (λ (f : Fixed). f.width input) is ∙ wide input lt;
  arity = ap (λ (f : Fixed). f.arity) is ∙ same;
  check = ap (λ (f : Fixed). f.check) is;
}

-- of one input
pub one_wide : (width : ℕ → ℕ) (shape : RowShape) → width 0 ≡ shape.left → (input : ℕ) → input < 1 → width input ≡ width_at shape input
one_wide width shape is zero lt = is
one_wide width shape is (suc input) lt = absurd (omega (arith, lt))

-- of none
pub none_wide : (width : ℕ → ℕ) (shape : RowShape) (input : ℕ) → input < 0 → width input ≡ width_at shape input
none_wide width shape input lt = absurd (omega (arith, lt))

-- ---- what is not there

pub not_there : {A : Type 0} (x : Option A) (P : A → Type 0) → There false x P → x ≡ None
not_there None P h = refl
not_there (Some x) P h = absurd h

-- ---- what is there

pub is_there : {A : Type 0} (x : Option A) (y : A) (P : A → Type 0) → x ≡ Some y → There true x P → P y
is_there x y P is h = subst (λ o. There true o P) is h

-- ---- kinds

pub begins_as : (kind other : Kind) (settings : Settings) (j : ℕ) (shape : RowShape) (scanned : List Row) (handed : List Fields) (store : StoreOf) (s : Seen) → kind ≡ other
    → Begins kind settings j shape scanned handed store s → Begins other settings j shape scanned handed store s
begins_as kind other settings j shape scanned handed store s same begins = subst (λ k. Begins k settings j shape scanned handed store s) same begins

-- a new driver's rows are as wide as this
pub new_as : (kind : Kind) (s : Seen) (left : Left) (n m : ℕ) → n ≡ m → IsNew s (driver_out kind n left) → IsNew s (driver_out kind m left)
new_as kind s left n m same new = subst (λ k. IsNew s (driver_out kind k left)) same new
