-- All that a task is given in its whole run is as wide as the task sees it, and values.
use Rattle.std.proofs.Common.{◌≡◌, ℕ, ◌<◌, true, false, List, [], ◌∷◌, ◌++◌, filter, length, ap, sym, subst, ◌∙◌, arith}
use Rattle.std.specs.Prelude.{nat_eq, slice_get}
use Rattle.std.specs.List.{AllByRecursion, Contains}
use Rattle.std.proofs.lemmas.List.Elements.{Contains-append_left}
use Rattle.std.proofs.lemmas.List.Sorted.{Contains-permutation, IsPermutation-sym, IsPermutation-trans}
use Rattle.hy_rest.specs.Words.{signal_rows, is_fail}
use Rattle.hy_job.specs.declared.job.Wire.{Wire}
use Rattle.hy_job.specs.declared.job.Wire.TheVariants as W
use Rattle.hy_job.specs.declared.job.Activity.{Activity}
use Rattle.hy_job.specs.declared.job.Edge.{Edge}
use Rattle.hy_job.specs.declared.job.Block.{Block}
use Rattle.hy_job.specs.declared.job.Job.{Job}
use Rattle.hy_job.specs.declared.job.Stage.{Stage}
use Rattle.hy_job.specs.Columns.{Row, AreValues}
use Rattle.hy_job.specs.Sound.{SoundJob, inputs, is_second, one_where, arity_of, handed_arity, width_in, blocks_into, edges_from}
use Rattle.hy_job.specs.Stages.{AreNext, activities_in}
use Rattle.hy_job.specs.Runs.{Taken, ComesBy, ComesOver, Receives, IsSender, MayCome, by_sender, rows_of, rows_at, kept_by, sent_over}
use Rattle.hy_job.specs.RunLaws.{AreWide}
use Rattle.hy_job.specs.Settled.{Completed, Records, Settled, Take, taken_rows, has_closed}
use Rattle.hy_job.proofs.Members.{in_here, in_filter, from_filter}
use Rattle.hy_job.proofs.Pairs.{in_map, from_map}
use Rattle.hy_job.proofs.Boxes.{activity_at, is_nat}
use Rattle.hy_job.proofs.Connections.{block_rises, block_ends}
use Rattle.hy_job.proofs.RunRows.{all_append, all_flat_map}
use Rattle.hy_job.proofs.Settling.{each_member}
use Rattle.hy_job.proofs.WireLaws.{came}
use Rattle.al_jobgen.proofs.SoundGraph.{weaken}
use Rattle.al_answer.proofs.Merging.{items_moved}
use Rattle.al_answer.proofs.Staged.{staged_block}
use Rattle.al_answer.proofs.Records.{blocked}
use Rattle.al_answer.proofs.Whole.{Work, RanAt, RanBelow}
use Rattle.al_answer.proofs.Step.{tag, rows_taken, found, source, edge_of, at_edge, made_claim, width_is, more, may_come, of_senders_all, all_taken, whole_fronts}

-- ---- what is handed

module _ (job : Job) (sound : SoundJob job) (stages : List Stage) (next : AreNext job [] stages) (records : Records) (settled : Settled job stages records) where
  -- what the first of two activities made is handed on, where it completed
  pub handed_is : (b : Block) → Contains job.blocks b → Contains (activities_in stages) b.after → (y : Activity) → y.number ≡ b.before → (f : ℕ → ℕ → Work) (j : ℕ) → j < job.partitions
      → RanAt job (records y.number j) f (f y.number j) y j → (records y.number j).outcome ≡ Completed → (records b.after j).handed ≡ (f b.before j).made
  handed_is b m c y at f j lt ran done =
      settled.handed b j m c lt
      ∙ subst (λ (k : ℕ). (records k j).hands_on ≡ (f k j).made) at (ran.hands done ∙ ap (λ (es : List Edge). kept_by es (f y.number j).made) (ap (edges_from job) at ∙ blocked job sound b m))

  -- the first of two activities completed in each partition
  abbrev pub FirstsDone : Type 0
  FirstsDone = (b : Block) → Contains job.blocks b → Contains (activities_in stages) b.after → (j : ℕ) → j < job.partitions → (records b.before j).outcome ≡ Completed

  module _ (firsts : FirstsDone) (a : Activity) (member : Contains job.activities a) (staged : Contains (activities_in stages) a.number) (f : ℕ → ℕ → Work) (less : RanBelow job sound stages next records a.number f) (j : ℕ) (lt : j < job.partitions) where
    abbrev HandedFits : ℕ → Type 0
    HandedFits width = AreWide width (records a.number j).handed × AllByRecursion AreValues (records a.number j).handed

    from_first : (b : Block) → Contains job.blocks b → b.after ≡ a.number → HandedFits (arity_of (slice_get job.activities b.before))
    from_first b m at =
        let up = block_rises job sound b m in
        let q = activity_at job sound b.before (omega (arith, up, block_ends job sound b m)) in
        let after = subst (Contains (activities_in stages)) (sym at) staged in
        let here = subst (Contains (activities_in stages)) (sym q.2) (staged_block job [] stages next b m after) in
        let ran = less q.0 q.1 here (omega (arith, q.2, up, at)) j lt in
        let same = handed_is b m after q.0 q.2 f j lt ran (subst (λ (k : ℕ). (records k j).outcome ≡ Completed) (sym q.2) (firsts b m after j lt)) in
        let rows = sym (ap (λ (k : ℕ). (records k j).handed) (sym at) ∙ same ∙ ap (λ (k : ℕ). (f k j).made) (sym q.2)) in
        let arity = sym (ap (λ (k : ℕ). arity_of (slice_get job.activities k)) (sym q.2) ∙ ap arity_of (found job sound q.0 q.1)) in (
          subst (λ (w : ℕ). AreWide w (records a.number j).handed) arity (subst (AreWide q.0.arity) rows ran.wide),
          subst (AllByRecursion AreValues) rows ran.values,
        )

    first_block : (bs : List Block) → ((b : Block) → Contains bs b → Contains job.blocks b × (b.after ≡ a.number)) → length bs ≡ 1 → HandedFits (handed_arity job bs)
    first_block [] h e = absurd (omega (arith, e))
    first_block (b ∷ bs) h e = let k = h b (in_here b bs) in from_first b k.0 k.1

    pub handed_fits : is_second a.kind ≡ true → AreWide (handed_arity job (blocks_into job a.number)) (records a.number j).handed × AllByRecursion AreValues (records a.number j).handed
    handed_fits e =
        first_block (blocks_into job a.number)
        (λ b c. (let k = from_filter (λ (z : Block). nat_eq z.after a.number) job.blocks b c in (k.0, is_nat b.after a.number k.1)))
        (each_member (λ (z : Activity). length (blocks_into job z.number) ≡ one_where (is_second z.kind)) job.activities sound.seconds a member ∙ ap one_where e)

-- ---- what is taken

-- what was taken at an input is received there
comes_has : (w : Wire) (n input : ℕ) (took : List Taken) (rows : List Row) → AllByRecursion (λ (t : Taken). t.sender < n) took → ComesBy w n input took rows → (row : Row) → Contains (rows_at input took) row → Contains rows row
comes_has W.OneToOne n input took rows h c row m = subst (λ (rs : List Row). Contains rs row) (sym c) m
comes_has (W.Hash columns) n input took rows h c row m = subst (λ (rs : List Row). Contains rs row) (sym c) m
comes_has W.Broadcast n input took rows h c row m = subst (λ (rs : List Row). Contains rs row) (sym c) m
comes_has W.Gather n input took rows h c row m = subst (λ (rs : List Row). Contains rs row) (sym c) m
comes_has (W.Merge keys) n input took rows h c row m =
    Contains-permutation (rows_at input took) rows row
    (IsPermutation-trans _ _ _ (IsPermutation-sym _ _ (items_moved (by_sender n input took) (rows_at input took) (came n input took h))) (items_moved (by_sender n input took) rows c.0)) m

at_front : (input : ℕ) (xs ys : List Taken) (row : Row) → Contains (rows_at input xs) row → Contains (rows_at input (xs ++ ys)) row
at_front input xs ys row m =
    let q = from_map (λ (t : Taken). t.row) (filter (λ (t : Taken). nat_eq t.input input) xs) row m in
    let k = from_filter (λ (t : Taken). nat_eq t.input input) xs q.0 q.1 in
    subst (Contains (rows_at input (xs ++ ys))) q.2
    (in_map (λ (t : Taken). t.row) (filter (λ (t : Taken). nat_eq t.input input) (xs ++ ys)) q.0 (in_filter (λ (t : Taken). nat_eq t.input input) (xs ++ ys) q.0 k.1 (Contains-append_left xs ys q.0 k.0)))

tag_all : (P : Taken → Type 0) (i s : ℕ) (rows : List Row) → ((row : Row) → P (record { input = i; sender = s; row = row })) → AllByRecursion P (tag i s rows)
tag_all P i s [] h = tt
tag_all P i s (row ∷ rows) h = (h row, tag_all P i s rows h)

module _ (job : Job) (sound : SoundJob job) (stages : List Stage) (next : AreNext job [] stages) (records : Records) (settled : Settled job stages records)
    (a : Activity) (member : Contains job.activities a) (staged : Contains (activities_in stages) a.number) (f : ℕ → ℕ → Work) (less : RanBelow job sound stages next records a.number f) (j : ℕ) (lt : j < job.partitions)
    (tk behind : List Take) (took : (records a.number j).took ≡ tk ++ behind) (no_fail : AllByRecursion (λ t. is_fail t.signal ≡ false) tk) where
  abbrev pub still : List Taken
  still = more job sound stages next records settled a member staged f less j lt tk behind took no_fail

  abbrev pub all_rows : List Taken
  all_rows = taken_rows tk ++ more job sound stages next records settled a member staged f less j lt tk behind took no_fail

  pub rows_fit : AllByRecursion (λ (t : Taken). length t.row ≡ width_in job a.number t.input) (taken_rows tk ++ more job sound stages next records settled a member staged f less j lt tk behind took no_fail)
  rows_fit = all_taken job sound stages next records settled a member staged f less j lt tk behind took no_fail (λ input row. length row ≡ width_in job a.number input) (λ e m to s ls.
      (let y = source job sound stages next records settled a member staged f less j lt tk behind took no_fail e m to in
      let fits = made_claim job sound stages next records settled a member staged f less j lt tk behind took no_fail e m to s ls in
      let width = width_is job sound stages next records settled a member staged f less j lt tk behind took no_fail e m to in
      weaken (λ (row : Row). (length row ≡ y.y.arity) × AreValues row) (λ (row : Row). length row ≡ width_in job a.number e.input) (λ row h. h.0 ∙ width) (sent_over e.wire job.partitions s j (f e.from s).made) fits))

  pub rows_valid : AllByRecursion (λ (t : Taken). AreValues t.row) (taken_rows tk ++ more job sound stages next records settled a member staged f less j lt tk behind took no_fail)
  rows_valid = all_taken job sound stages next records settled a member staged f less j lt tk behind took no_fail (λ input row. AreValues row) (λ e m to s ls.
      (let y = source job sound stages next records settled a member staged f less j lt tk behind took no_fail e m to in
      let fits = made_claim job sound stages next records settled a member staged f less j lt tk behind took no_fail e m to s ls in
      weaken (λ (row : Row). (length row ≡ y.y.arity) × AreValues row) AreValues (λ row h. h.1) (sent_over e.wire job.partitions s j (f e.from s).made) fits))

  pub senders_below : AllByRecursion (λ (t : Taken). t.sender < job.partitions) (taken_rows tk ++ more job sound stages next records settled a member staged f less j lt tk behind took no_fail)
  senders_below =
      all_append (λ (t : Taken). t.sender < job.partitions) (taken_rows tk) (more job sound stages next records settled a member staged f less j lt tk behind took no_fail)
      (all_flat_map (λ (u : Take). IsSender job a j u.input u.sender) (λ (t : Taken). t.sender < job.partitions) (λ (u : Take). tag u.input u.sender (signal_rows u.signal))
      (λ u of. tag_all (λ (t : Taken). t.sender < job.partitions) u.input u.sender (signal_rows u.signal) (λ row. of.within)) tk
      (of_senders_all job sound stages next records settled a member staged f less j lt tk behind took no_fail))
      (weaken (MayCome job a j (has_closed tk)) (λ (t : Taken). t.sender < job.partitions) (λ t h. h.of.within) _ (may_come job sound stages next records settled a member staged f less j lt tk behind took no_fail))

  -- who took all that was put took what whole runs send
  pub each_whole : behind ≡ [] → (e : Edge) → Contains job.edges e → e.to ≡ a.number → (s : ℕ) → s < job.partitions → rows_of e.input s (taken_rows tk) ≡ sent_over e.wire job.partitions s j (f e.from s).made
  each_whole none e m to s ls = rows_taken e.input s tk ∙ sym (whole_fronts job sound stages next records settled a member staged f less j lt tk behind took no_fail none e m to s ls)

  -- what it took at an input is among what it receives there
  pub receives_taken : (i : ℕ) → i < inputs a.kind → (rows : List Row) → Receives job a.number (taken_rows tk ++ more job sound stages next records settled a member staged f less j lt tk behind took no_fail) i rows
      → (row : Row) → Contains (rows_at i (taken_rows tk)) row → Contains rows row
  receives_taken i li rows h row c =
      let q = edge_of job sound stages next records settled a member staged f less j lt tk behind took no_fail i li in
      let at = at_edge job sound stages next records settled a member staged f less j lt tk behind took no_fail q.0 q.1 q.2
      (λ es. ComesOver es job.partitions q.0.input all_rows rows → (r : Row) → Contains (rows_at q.0.input all_rows) r → Contains rows r)
      (λ es come r k. comes_has q.0.wire job.partitions q.0.input all_rows rows senders_below come r k) in
      subst (λ (k : ℕ). Receives job a.number all_rows k rows → (r : Row) → Contains (rows_at k all_rows) r → Contains rows r) q.3 at h row (at_front i (taken_rows tk) still row c)
