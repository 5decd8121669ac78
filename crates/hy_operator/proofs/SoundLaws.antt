-- An activity of a sound job fits the rows that it sees.
use Rattle.std.proofs.Common.{◌≡◌, ◌<◌, ◌≤◌, ◌+◌, ℕ, nat_eq, true, Option, Some, None, List, [], ◌∷◌, map, length, get_or, refl, sym, ap, subst, ◌∙◌, arith}
use Rattle.std.specs.List.{AllByRecursion, Contains, range_with_len, slice_get}
use Rattle.std.proofs.lemmas.List.Elements.{All-contains, All-from_recursion}
use Rattle.std.proofs.lemmas.List.{get_or-map}
use Rattle.std.proofs.lemmas.List.FromFn.{get_or-range_with_len}
use Rattle.hy_job.specs.declared.job.Activity.{Activity}
use Rattle.hy_job.specs.declared.job.Block.{Block}
use Rattle.hy_job.specs.declared.job.GroupArg.{GroupArg}
use Rattle.hy_job.specs.declared.job.Job.{Job}
use Rattle.hy_job.specs.declared.job.Kind.{Kind}
use Rattle.hy_job.specs.declared.job.Kind.TheVariants as K
use Rattle.hy_job.specs.Sound.{SoundJob, Widths, widths_of, activity, arity_of, blocks_into, handed_arity, is_second, one_where, built_fields, AreTwo, AreTwoOf, HasArity, IsInRange, HasSoundNested, HasKeyPairs, TakesStates}
use Rattle.hy_job.proofs.Members.{in_here, from_filter}
use Rattle.hy_job.proofs.Pairs.{slice_at, slice_from}
use Rattle.hy_job.proofs.Boxes.{is_nat}
use Rattle.hy_operator.specs.Kinds.{Fits, IsHandedGroups}
use Rattle.hy_operator.specs.Laws.{ActivitiesFit}

each : {X : Type 0} (P : X → Type 0) (xs : List X) (x : X) → AllByRecursion P xs → Contains xs x → P x
each P xs x all m = All-contains P xs x (All-from_recursion P xs all) m

-- an activity is found by its number
found : (xs : List Activity) → map (λ (x : Activity). x.number) xs ≡ range_with_len 0 (length xs) → (a : Activity) → Contains xs a → slice_get xs a.number ≡ Some a
found xs numbers a m =
    let place : get_or xs m.0 a ≡ a = m.2 in
    let n : get_or (map (λ (x : Activity). x.number) xs) m.0 0 ≡ (get_or xs m.0 a).number = get_or-map (λ (x : Activity). x.number) xs m.0 a 0 m.1 in
    let r : get_or (range_with_len 0 (length xs)) m.0 0 ≡ 0 + m.0 = get_or-range_with_len 0 (length xs) m.0 0 m.1 in
    let q : a.number ≡ 0 + m.0 = ap (λ (x : Activity). x.number) (sym place) ∙ (sym n ∙ (ap (λ ys. get_or ys m.0 0) numbers ∙ r)) in
    subst (λ k. slice_get xs k ≡ Some a) (omega (arith, q)) (slice_from xs m.0 a a m.1 place)

module _ (job : Job) (sound : SoundJob job) (a : Activity) (m : Contains job.activities a) where
  -- the rows that the first activity of a group hands on
  first_wide : (f : Activity) (arg : GroupArg) (kind : Kind) → f.kind ≡ kind → AreTwo kind (K.GroupEmit arg) → HasArity f.kind (widths_of job f.number) f.arity → f.arity ≡ length arg.keys + built_fields arg.nested
  first_wide f arg (K.GroupBuild own) e same wide =
      let here : HasArity (K.GroupBuild own) (widths_of job f.number) f.arity = subst (λ k. HasArity k (widths_of job f.number) f.arity) e wide in
      here ∙ ap (λ (g : GroupArg). length g.keys + built_fields g.nested) same
  first_wide f arg _ e same wide = absurd same

  two_wide : (arg : GroupArg) (n : ℕ) (first : Option Activity) → slice_get job.activities n ≡ first → a.kind ≡ K.GroupEmit arg → AreTwoOf first (Some a) → arity_of first ≡ length arg.keys + built_fields arg.nested
  two_wide arg n None is e two = absurd two
  two_wide arg n (Some f) is e two =
      let at = slice_at job.activities n f is in
      let here : Contains job.activities f = (n, at.0, at.1 f) in
      first_wide f arg f.kind refl (subst (AreTwo f.kind) e two) (each (λ x. HasArity x.kind (widths_of job x.number) x.arity) job.activities f sound.arities here)

  blocks_wide : (arg : GroupArg) → a.kind ≡ K.GroupEmit arg → (bs : List Block) → bs ≡ blocks_into job a.number → length bs ≡ 1 → handed_arity job bs ≡ length arg.keys + built_fields arg.nested
  blocks_wide arg e [] is one = absurd (omega (arith, one))
  blocks_wide arg e (b ∷ bs) is one =
      let kept = from_filter (λ (x : Block). nat_eq x.after a.number) job.blocks b (subst (λ ys. Contains ys b) is (in_here b bs)) in
      let pair = each (λ x. AreTwoOf (activity job x.before) (activity job x.after)) job.blocks b sound.paired kept.0 in
      let after : activity job b.after ≡ Some a = ap (slice_get job.activities) (is_nat b.after a.number kept.1) ∙ found job.activities sound.numbered a m in
      two_wide arg b.before (activity job b.before) refl e (subst (AreTwoOf (activity job b.before)) after pair)

  groups : (kind : Kind) → a.kind ≡ kind → IsHandedGroups kind (handed_arity job (blocks_into job a.number))
  groups (K.GroupEmit arg) e =
      blocks_wide arg e (blocks_into job a.number) refl
      (subst (λ k. length (blocks_into job a.number) ≡ one_where (is_second k)) e (each (λ x. length (blocks_into job x.number) ≡ one_where (is_second x.kind)) job.activities a sound.seconds m))
  groups _ e = tt

  fits : Fits a.kind (widths_of job a.number) a.arity
  fits = record {
    in_range = each (λ x. IsInRange x.kind (widths_of job x.number)) job.activities a sound.in_range m;
    nested = each (λ x. HasSoundNested x.kind (widths_of job x.number)) job.activities a sound.nested m;
    pairs = each (λ x. HasKeyPairs x.kind) job.activities a sound.key_pairs m;
    states = each (λ x. TakesStates x.kind (widths_of job x.number)) job.activities a sound.states m;
    groups = groups a.kind refl;
    wide = each (λ x. HasArity x.kind (widths_of job x.number) x.arity) job.activities a sound.arities m;
    narrow = each (λ x. x.arity ≤ 1024) job.activities a sound.narrow m;
  }

pub activities_fit : ActivitiesFit
activities_fit job sound a m = fits job sound a m
