-- The worked cases of jobs.
use Rattle.std.proofs.Common.{true, ◌≡◌, ◌<◌, ℕ, nat_eq, Some, List, [], ◌∷◌, length, filter, refl, subst, arith}
use Rattle.std.specs.List.{Contains}
use Rattle.std.proofs.lemmas.List.Elements.{All-contains, All-from_recursion}
use Rattle.std.specs.List.Sorted.{IsPermutation}
use Rattle.std.proofs.lemmas.List.Sorted.{IsPermutation-refl}
use Rattle.hy_job.specs.declared.job.Kind.TheVariants as K
use Rattle.hy_job.specs.declared.job.Block.{Block}
use Rattle.hy_job.specs.declared.job.Job.{Job}
use Rattle.hy_job.specs.Sound.{SoundJob, AreTwoOf, activity}
use Rattle.hy_job.specs.Finding.{AreRoots, AreSoFar}
use Rattle.hy_job.specs.Cases.{act, block, stage, sorting, probing_first, joining, SortingIsSound, SortingHasTwoStages, JoiningIsSound, JoiningHasFourStages, ReadingIsSound, is_text, BlockIsNeeded, BuildComesFirst}
use Rattle.al_value.specs.declared.value.Value.TheVariants as V
use Rattle.al_func.specs.declared.rex.Rex.TheVariants as R
use Rattle.al_func.specs.Rex.{IsSound}
use Rattle.al_func.proofs.RexLaws.{is_sound-Lit, is_sound_laws}
use Rattle.hy_job.proofs.Members.{by_cases, in_here, in_there}
use Rattle.hy_job.proofs.Connections.{roots_begin, roots_keep, roots_step, roots_end}
use Rattle.hy_job.proofs.StageLaws.{none_yet, one_more, all_found}

pub sorting_sound : SortingIsSound
sorting_sound set = record {
  some_partition = omega arith;
  few_partitions = omega arith;
  few = omega arith;
  numbered = refl;
  edges_rise = (omega arith, (omega arith, tt));
  edges_end = (omega arith, (omega arith, tt));
  blocks_rise = (omega arith, tt);
  blocks_end = (omega arith, tt);
  fed = (IsPermutation-refl _, (IsPermutation-refl _, (IsPermutation-refl _, (IsPermutation-refl _, tt))));
  leaving = (omega arith, (omega arith, (omega arith, (omega arith, tt))));
  paired = (refl, tt);
  firsts = (refl, (refl, (refl, (refl, tt))));
  seconds = (refl, (refl, (refl, (refl, tt))));
  merged = (tt, (refl, tt));
  in_range = (tt, ((omega arith, tt), ((omega arith, tt), ((omega arith, tt), tt))));
  wires = (tt, ((omega arith, tt), tt));
  nested = (tt, (tt, (tt, (tt, tt))));
  key_pairs = (tt, (tt, (tt, (tt, tt))));
  all_keys = (tt, (tt, (tt, (tt, tt))));
  states = (tt, (tt, (tt, (tt, tt))));
  arities = (tt, (refl, (refl, (refl, tt))));
  narrow = (omega arith, (omega arith, (omega arith, (omega arith, tt))));
}

pub sorting_stages : SortingHasTwoStages
sorting_stages set = all_found job sound roots [] (stage (0 ∷ 1 ∷ []) ∷ stage (2 ∷ 3 ∷ []) ∷ []) rooted whole refl
  where
    job : Job
    job = sorting set (block 1 2 ∷ [])

    sound : SoundJob (sorting set (block 1 2 ∷ []))
    sound = sorting_sound set

    roots : List ℕ
    roots = 1 ∷ 1 ∷ 3 ∷ 3 ∷ []

    rooted : AreRoots (sorting set (block 1 2 ∷ [])) (1 ∷ 1 ∷ 3 ∷ 3 ∷ [])
    rooted = roots_end _ _
        (roots_step _ sound (0 ∷ 1 ∷ 3 ∷ 3 ∷ []) 0 1 1 refl (omega arith)
        (roots_keep _ sound (0 ∷ 1 ∷ 3 ∷ 3 ∷ []) 1 2 refl (omega arith)
        (roots_step _ sound (0 ∷ 1 ∷ 2 ∷ 3 ∷ []) 2 3 3 refl (omega arith)
        (roots_keep _ sound (0 ∷ 1 ∷ 2 ∷ 3 ∷ []) 3 4 refl (omega arith)
        (roots_begin _ (0 ∷ 1 ∷ 2 ∷ 3 ∷ []) refl) refl) refl) refl) refl)

    one : AreSoFar (sorting set (block 1 2 ∷ [])) (1 ∷ 1 ∷ 3 ∷ 3 ∷ []) (2 ∷ 3 ∷ []) (stage (0 ∷ 1 ∷ []) ∷ [])
    one = one_more _ sound (1 ∷ 1 ∷ 3 ∷ 3 ∷ []) (0 ∷ 1 ∷ 2 ∷ 3 ∷ []) [] 1 rooted (none_yet _ (1 ∷ 1 ∷ 3 ∷ 3 ∷ []) (0 ∷ 1 ∷ 2 ∷ 3 ∷ []) refl) refl

    whole : AreSoFar (sorting set (block 1 2 ∷ [])) (1 ∷ 1 ∷ 3 ∷ 3 ∷ []) [] (stage (0 ∷ 1 ∷ []) ∷ stage (2 ∷ 3 ∷ []) ∷ [])
    whole = one_more _ sound (1 ∷ 1 ∷ 3 ∷ 3 ∷ []) (2 ∷ 3 ∷ []) (stage (0 ∷ 1 ∷ []) ∷ []) 3 rooted one refl

pub joining_sound : JoiningIsSound
joining_sound left right = record {
  some_partition = omega arith;
  few_partitions = omega arith;
  few = omega arith;
  numbered = refl;
  edges_rise = (omega arith, (omega arith, (omega arith, (omega arith, (omega arith, tt)))));
  edges_end = (omega arith, (omega arith, (omega arith, (omega arith, (omega arith, tt)))));
  blocks_rise = (omega arith, (omega arith, (omega arith, tt)));
  blocks_end = (omega arith, (omega arith, (omega arith, tt)));
  fed = (same _, (same _, (same _, (same _, (same _, (same _, (same _, (same _, (same _, tt)))))))));
  leaving = (omega arith, (omega arith, (omega arith, (omega arith, (omega arith, (omega arith, (omega arith, (omega arith, (omega arith, tt)))))))));
  paired = (refl, (refl, (refl, tt)));
  firsts = (refl, (refl, (refl, (refl, (refl, (refl, (refl, (refl, (refl, tt)))))))));
  seconds = (refl, (refl, (refl, (refl, (refl, (refl, (refl, (refl, (refl, tt)))))))));
  merged = (tt, (tt, (tt, (tt, (tt, tt)))));
  in_range = (tt, ((omega arith, tt), ((omega arith, tt), (tt, ((omega arith, tt), ((omega arith, tt), ((omega arith, tt), (((omega arith, tt), (omega arith, tt), literal 2), ((omega arith, tt), tt)))))))));
  wires = (tt, (tt, (tt, (tt, (tt, tt)))));
  nested = (tt, (tt, (tt, (tt, (tt, (tt, (tt, (tt, (tt, tt)))))))));
  key_pairs = (tt, (tt, (tt, (tt, (tt, (tt, (refl, (refl, (tt, tt)))))))));
  all_keys = (tt, (refl, (refl, (tt, (refl, (refl, (tt, (tt, (tt, tt)))))))));
  states = (tt, (tt, (tt, (tt, (tt, (tt, (tt, (tt, (tt, tt)))))))));
  arities = (tt, (refl, (refl, (tt, (refl, (refl, (refl, (refl, (refl, tt)))))))));
  narrow = (omega arith, (omega arith, (omega arith, (omega arith, (omega arith, (omega arith, (omega arith, (omega arith, (omega arith, tt)))))))));
}
  where
    same : (xs : List ℕ) → IsPermutation xs xs
    same xs = IsPermutation-refl xs

    literal : (width : ℕ) → IsSound width (R.Lit (V.Bool true))
    literal width = is_sound-Lit width (V.Bool true)

-- the roots of its activities
abbrev joining_roots : List ℕ
joining_roots = 1 ∷ 1 ∷ 8 ∷ 4 ∷ 4 ∷ 6 ∷ 6 ∷ 8 ∷ 8 ∷ []

pub joining_stages : JoiningHasFourStages
joining_stages left right = all_found _ sound joining_roots [] (stage (0 ∷ 1 ∷ []) ∷ stage (3 ∷ 4 ∷ []) ∷ stage (5 ∷ 6 ∷ []) ∷ stage (2 ∷ 7 ∷ 8 ∷ []) ∷ []) rooted four refl
  where
    sound : SoundJob (joining left right)
    sound = joining_sound left right

    rooted : AreRoots (joining left right) (1 ∷ 1 ∷ 8 ∷ 4 ∷ 4 ∷ 6 ∷ 6 ∷ 8 ∷ 8 ∷ [])
    rooted = roots_end _ _
        (roots_step _ sound (0 ∷ 1 ∷ 8 ∷ 4 ∷ 4 ∷ 6 ∷ 6 ∷ 8 ∷ 8 ∷ []) 0 1 1 refl (omega arith)
        (roots_keep _ sound (0 ∷ 1 ∷ 8 ∷ 4 ∷ 4 ∷ 6 ∷ 6 ∷ 8 ∷ 8 ∷ []) 1 2 refl (omega arith)
        (roots_step _ sound (0 ∷ 1 ∷ 2 ∷ 4 ∷ 4 ∷ 6 ∷ 6 ∷ 8 ∷ 8 ∷ []) 2 3 7 refl (omega arith)
        (roots_step _ sound (0 ∷ 1 ∷ 2 ∷ 3 ∷ 4 ∷ 6 ∷ 6 ∷ 8 ∷ 8 ∷ []) 3 4 4 refl (omega arith)
        (roots_keep _ sound (0 ∷ 1 ∷ 2 ∷ 3 ∷ 4 ∷ 6 ∷ 6 ∷ 8 ∷ 8 ∷ []) 4 5 refl (omega arith)
        (roots_step _ sound (0 ∷ 1 ∷ 2 ∷ 3 ∷ 4 ∷ 5 ∷ 6 ∷ 8 ∷ 8 ∷ []) 5 6 6 refl (omega arith)
        (roots_keep _ sound (0 ∷ 1 ∷ 2 ∷ 3 ∷ 4 ∷ 5 ∷ 6 ∷ 8 ∷ 8 ∷ []) 6 7 refl (omega arith)
        (roots_step _ sound (0 ∷ 1 ∷ 2 ∷ 3 ∷ 4 ∷ 5 ∷ 6 ∷ 7 ∷ 8 ∷ []) 7 8 8 refl (omega arith)
        (roots_keep _ sound (0 ∷ 1 ∷ 2 ∷ 3 ∷ 4 ∷ 5 ∷ 6 ∷ 7 ∷ 8 ∷ []) 8 9 refl (omega arith)
        (roots_begin _ (0 ∷ 1 ∷ 2 ∷ 3 ∷ 4 ∷ 5 ∷ 6 ∷ 7 ∷ 8 ∷ []) refl) refl) refl) refl) refl) refl) refl) refl) refl) refl)

    one : AreSoFar (joining left right) joining_roots (2 ∷ 3 ∷ 4 ∷ 5 ∷ 6 ∷ 7 ∷ 8 ∷ []) (stage (0 ∷ 1 ∷ []) ∷ [])
    one = one_more _ sound joining_roots (0 ∷ 1 ∷ 2 ∷ 3 ∷ 4 ∷ 5 ∷ 6 ∷ 7 ∷ 8 ∷ []) [] 1 rooted (none_yet _ joining_roots (0 ∷ 1 ∷ 2 ∷ 3 ∷ 4 ∷ 5 ∷ 6 ∷ 7 ∷ 8 ∷ []) refl) refl

    two : AreSoFar (joining left right) joining_roots (2 ∷ 5 ∷ 6 ∷ 7 ∷ 8 ∷ []) (stage (0 ∷ 1 ∷ []) ∷ stage (3 ∷ 4 ∷ []) ∷ [])
    two = one_more _ sound joining_roots (2 ∷ 3 ∷ 4 ∷ 5 ∷ 6 ∷ 7 ∷ 8 ∷ []) _ 4 rooted one refl

    three : AreSoFar (joining left right) joining_roots (2 ∷ 7 ∷ 8 ∷ []) (stage (0 ∷ 1 ∷ []) ∷ stage (3 ∷ 4 ∷ []) ∷ stage (5 ∷ 6 ∷ []) ∷ [])
    three = one_more _ sound joining_roots (2 ∷ 5 ∷ 6 ∷ 7 ∷ 8 ∷ []) _ 6 rooted two refl

    four : AreSoFar (joining left right) joining_roots [] (stage (0 ∷ 1 ∷ []) ∷ stage (3 ∷ 4 ∷ []) ∷ stage (5 ∷ 6 ∷ []) ∷ stage (2 ∷ 7 ∷ 8 ∷ []) ∷ [])
    four = one_more _ sound joining_roots (2 ∷ 7 ∷ 8 ∷ []) _ 8 rooted three refl

pub reading_sound : ReadingIsSound
reading_sound set text = record {
  some_partition = omega arith;
  few_partitions = omega arith;
  few = omega arith;
  numbered = refl;
  edges_rise = (omega arith, (omega arith, (omega arith, (omega arith, tt))));
  edges_end = (omega arith, (omega arith, (omega arith, (omega arith, tt))));
  blocks_rise = tt;
  blocks_end = tt;
  fed = (same _, (same _, (same _, (same _, (same _, tt)))));
  leaving = (omega arith, (omega arith, (omega arith, (omega arith, (omega arith, tt)))));
  paired = tt;
  firsts = (refl, (refl, (refl, (refl, (refl, tt)))));
  seconds = (refl, (refl, (refl, (refl, (refl, tt)))));
  merged = (tt, (tt, (tt, (tt, tt))));
  in_range = (tt, ((omega arith, (omega arith, tt)), (equation, ((omega arith, tt), ((omega arith, tt), tt)))));
  wires = (tt, (tt, (tt, (tt, tt))));
  nested = (tt, (tt, (tt, (tt, (tt, tt)))));
  key_pairs = (tt, (tt, (tt, (tt, (tt, tt)))));
  all_keys = (tt, (tt, (tt, (tt, (tt, tt)))));
  states = (tt, (tt, (tt, (tt, (tt, tt)))));
  arities = (tt, (refl, (refl, (refl, (refl, tt)))));
  narrow = (omega arith, (omega arith, (omega arith, (omega arith, (omega arith, tt)))));
}
  where
    same : (xs : List ℕ) → IsPermutation xs xs
    same xs = IsPermutation-refl xs

    equation : IsSound 2 (is_text text)
    equation = simp is_sound_laws

pub block_needed : BlockIsNeeded
block_needed set s = absurd (omega (arith, s.firsts.1.0))

pub build_first : BuildComesFirst
build_first set arg blocks s = none (one_of blocks s.seconds.1.0)
  where
    -- a list of one item has it
    one_of : (bs : List Block) → length (filter (λ (b : Block). nat_eq b.after 1) bs) ≡ 1 → (b : Block) × Contains bs b × (b.after ≡ 1)
    one_of [] e = absurd (omega (arith, e))
    one_of (x ∷ bs) e = by_cases (nat_eq x.after 1)
        (λ t. (x, in_here x bs, grind arith))
        (λ f. let r : length (filter (λ (b : Block). nat_eq b.after 1) bs) ≡ 1 = rw f at e in let q = one_of bs r in (q.0, in_there x q.0 bs q.1, q.2))

    none : (b : Block) × Contains blocks b × (b.after ≡ 1) → ⊥
    none q =
        let low = All-contains (λ (x : Block). x.before < x.after) blocks q.0 (All-from_recursion (λ (x : Block). x.before < x.after) blocks s.blocks_rise) q.1 in
        let two = All-contains (λ (x : Block). AreTwoOf (activity (probing_first set arg blocks) x.before) (activity (probing_first set arg blocks) x.after)) blocks q.0
        (All-from_recursion (λ (x : Block). AreTwoOf (activity (probing_first set arg blocks) x.before) (activity (probing_first set arg blocks) x.after)) blocks s.paired) q.1 in
        let zero_before : q.0.before ≡ 0 = omega (arith, low, q.2) in
        let scan : AreTwoOf (Some (act 0 (K.Scan set) 1)) (activity (probing_first set arg blocks) q.0.after) =
        subst (λ n. AreTwoOf (activity (probing_first set arg blocks) n) (activity (probing_first set arg blocks) q.0.after)) zero_before two in
        let both : AreTwoOf (Some (act 0 (K.Scan set) 1)) (Some (act 1 (K.JoinProbe arg) 2)) =
        subst (λ n. AreTwoOf (Some (act 0 (K.Scan set) 1)) (activity (probing_first set arg blocks) n)) q.2 scan in
        both
