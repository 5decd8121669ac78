-- What becomes of the runs when their slots change.
use Rattle.std.proofs.Common.{◌≡◌, ◌≢◌, ℕ, zero, suc, ◌+◌, ◌<◌, true, false, List, [], ◌∷◌, ◌++◌, length, get_or, set, Option, Some, None, refl, sym, ap, subst, ◌∙◌, arith}
use Rattle.std.specs.Prelude.{nat_eq, is_some, cond, Result, Ok, Err, OnOk}
use Rattle.std.proofs.lemmas.List.Sums.{sum_by-cons}
use Rattle.std.specs.List.{Contains, count_by}
use Rattle.std.specs.Option.{option_map, option_map_or, IsSome}
use Rattle.al_value.specs.Outside.{Told}
use Rattle.std.proofs.lemmas.Bool.Decides.{nat_tests}
use Rattle.std.proofs.lemmas.List.{get_or-set_same, get_or-set_other}
use Rattle.std.proofs.Math.Seq.{get_or-append_seam}
use Rattle.std.proofs.Math.ListN.{length-set, length-append}
use Rattle.hy_frame.specs.Frame.{FrameOf}
use Rattle.hy_store.specs.Runs.{Held, Created, Grown, Removed, without}
use Rattle.hy_store.specs.Slots.{live_from, of_run, runs_of}
use Rattle.hy_store.specs.Folder.{count_in, runs_in, GrewByOne}
use Rattle.hy_store.specs.declared.folder.FolderRun.{FolderRun}

module _ {X : Type 0} where
  -- the frames of each run, where they are told
  abbrev told_by : Option (X → List FrameOf) → List (Option X) → Option Held
  told_by told slots = option_map (λ frames. of_run frames [] slots) told

  -- a live run has a slot that holds it
  pub live_there : (slots : List (Option X)) (n r : ℕ) → Contains (live_from n slots) r → (j : ℕ) × (r ≡ n + j) × (j < length slots) × (x : X) × (get_or slots j None ≡ Some x)
  live_there [] n r h = absurd (omega (arith, h.1))
  live_there (None ∷ slots) n r h =
      let t = live_there slots (n + 1) r h in (suc t.0, omega (arith, t.1), omega (arith, t.2), t.3, t.4)
  live_there (Some x ∷ slots) n r (zero, lt, e) = (0, omega (arith, e), omega arith, x, refl)
  live_there (Some x ∷ slots) n r (suc k, lt, e) =
      let t = live_there slots (n + 1) r (k, omega (arith, lt), e) in (suc t.0, omega (arith, t.1), omega (arith, t.2), t.3, t.4)

  live_push : (slots : List (Option X)) (n : ℕ) (x : X) → live_from n (slots ++ Some x ∷ []) ≡ live_from n slots ++ (n + length slots) ∷ []
  live_push [] n x = let e : n + 0 ≡ n = omega arith in rw e refl
  live_push (None ∷ slots) n x =
      let e : n + 1 + length slots ≡ n + suc (length slots) = omega arith in live_push slots (n + 1) x ∙ rw e refl
  live_push (Some y ∷ slots) n x =
      let e : n + 1 + length slots ≡ n + suc (length slots) = omega arith in ap (λ l. n ∷ l) (live_push slots (n + 1) x ∙ rw e refl)

  live_keep : (slots : List (Option X)) (n j : ℕ) (x y : X) → get_or slots j None ≡ Some x → live_from n (set slots j (Some y)) ≡ live_from n slots
  live_keep [] n j x y e = refl
  live_keep (None ∷ slots) n zero x y e = absurd (cc)
  live_keep (Some z ∷ slots) n zero x y e = refl
  live_keep (None ∷ slots) n (suc j) x y e = live_keep slots (n + 1) j x y e
  live_keep (Some z ∷ slots) n (suc j) x y e = ap (λ l. n ∷ l) (live_keep slots (n + 1) j x y e)

  -- numbers below the first are no live run's
  none_lower : (slots : List (Option X)) (n r : ℕ) → r < n → live_from n slots ≡ without r (live_from n slots)
  none_lower [] n r lt = refl
  none_lower (None ∷ slots) n r lt = none_lower slots (n + 1) r (omega arith)
  none_lower (Some x ∷ slots) n r lt =
      let t : nat_eq n r ≡ false = grind (arith, nat_tests) in
      rw t (ap (λ l. n ∷ l) (none_lower slots (n + 1) r (omega arith)))

  live_drop : (slots : List (Option X)) (n j : ℕ) → live_from n (set slots j None) ≡ without (n + j) (live_from n slots)
  live_drop [] n j = refl
  live_drop (None ∷ slots) n zero = none_lower slots (n + 1) (n + 0) (omega arith)
  live_drop (Some x ∷ slots) n zero =
      let t : nat_eq n (n + 0) ≡ true = grind (arith, nat_tests) in rw t (none_lower slots (n + 1) (n + 0) (omega arith))
  live_drop (None ∷ slots) n (suc j) =
      let e : n + 1 + j ≡ n + suc j = omega arith in rw e at (live_drop slots (n + 1) j)
  live_drop (Some x ∷ slots) n (suc j) =
      let t : nat_eq n (n + suc j) ≡ false = grind (arith, nat_tests) in
      let e : n + 1 + j ≡ n + suc j = omega arith in
      rw t (ap (λ l. n ∷ l) (rw e at (live_drop slots (n + 1) j)))

  push_other : (slots : List (Option X)) (x : X) (r : ℕ) → r ≢ length slots → get_or (slots ++ Some x ∷ []) r None ≡ get_or slots r None
  push_other [] x zero ne = absurd (ne refl)
  push_other [] x (suc r) ne = refl
  push_other (s ∷ slots) x zero ne = refl
  push_other (s ∷ slots) x (suc r) ne = push_other slots x r (λ e. ne (ap suc e))

  made_other : {Y : Type 0} (f : X → Y) (none : Y) (slots : List (Option X)) (x : X) (r : ℕ) → r ≢ length slots → of_run f none (slots ++ Some x ∷ []) r ≡ of_run f none slots r
  made_other f none slots x r ne = ap (λ o. option_map_or f o none) (push_other slots x r ne)

  made_new : {Y : Type 0} (f : X → Y) (none : Y) (slots : List (Option X)) (x : X) → of_run f none (slots ++ Some x ∷ []) (length slots) ≡ f x
  made_new f none slots x = ap (λ o. option_map_or f o none) (get_or-append_seam slots (Some x) [] None)

  set_other : {Y : Type 0} (f : X → Y) (none : Y) (slots : List (Option X)) (o : Option X) (run r : ℕ) → r ≢ run → of_run f none (set slots run o) r ≡ of_run f none slots r
  set_other f none slots o run r ne = ap (λ s. option_map_or f s none) (get_or-set_other slots run r o None ne)

  set_here : {Y : Type 0} (f : X → Y) (none : Y) (slots : List (Option X)) (y : X) (run : ℕ) → run < length slots → of_run f none (set slots run (Some y)) run ≡ f y
  set_here f none slots y run lt = ap (λ s. option_map_or f s none) (get_or-set_same slots run (Some y) None lt)

  held_here : {Y : Type 0} (f : X → Y) (none : Y) (slots : List (Option X)) (x : X) (run : ℕ) → get_or slots run None ≡ Some x → of_run f none slots run ≡ f x
  held_here f none slots x run e = ap (λ s. option_map_or f s none) e

  -- what a live run's slot holds
  pub live_slot : (slots : List (Option X)) (r : ℕ) → Contains (live_from 0 slots) r → (r < length slots) × (x : X) × (get_or slots r None ≡ Some x)
  live_slot slots r h =
      let t = live_there slots 0 r h in
      let e : t.0 ≡ r = omega (arith, t.1) in
      (omega (arith, e, t.2), t.3, subst (λ (k : ℕ). get_or slots k None ≡ Some t.3) e t.4)

  -- what is told of other runs
  told_made : (told : Option (X → List FrameOf)) (slots : List (Option X)) (x : X)
      → Told (told_by told slots) (λ f. Told (told_by told (slots ++ Some x ∷ [])) (λ g. (r : ℕ) → r ≢ length slots → g r ≡ f r))
  told_made None slots x = tt
  told_made (Some f) slots x = made_other f [] slots x

  told_set : (told : Option (X → List FrameOf)) (slots : List (Option X)) (o : Option X) (run : ℕ)
      → Told (told_by told slots) (λ f. Told (told_by told (set slots run o)) (λ g. (r : ℕ) → r ≢ run → g r ≡ f r))
  told_set None slots o run = tt
  told_set (Some f) slots o run = set_other f [] slots o run

  tells_still : (told : Option (X → List FrameOf)) (old new : List (Option X)) → is_some (told_by told new) ≡ is_some (told_by told old)
  tells_still None old new = refl
  tells_still (Some f) old new = refl

  -- what is told of a run that was made, and of one that grew
  told_new : (told : Option (X → List FrameOf)) (slots : List (Option X)) (x : X) → Told told (λ f. f x ≡ []) → Told (told_by told (slots ++ Some x ∷ [])) (λ g. g (length slots) ≡ [])
  told_new None slots x empty = tt
  told_new (Some f) slots x empty = made_new f [] slots x ∙ empty

  told_grown : (told : Option (X → List FrameOf)) (slots : List (Option X)) (x y : X) (run : ℕ) (frame : FrameOf)
      → run < length slots → get_or slots run None ≡ Some x → Told told (λ f. f y ≡ f x ++ frame ∷ [])
      → Told (told_by told slots) (λ f. Told (told_by told (set slots run (Some y))) (λ g. g run ≡ f run ++ frame ∷ []))
  told_grown None slots x y run frame lt is more = tt
  told_grown (Some f) slots x y run frame lt is more =
      set_here f [] slots y run lt ∙ more ∙ ap (λ frames. frames ++ frame ∷ []) (sym (held_here f [] slots x run is))

  -- a run that is empty was made
  pub created : (size : X → ℕ) (told : Option (X → List FrameOf)) (slots : List (Option X)) (x : X)
      → size x ≡ 0 → Told told (λ f. f x ≡ []) → Created (length slots) (runs_of size told slots) (runs_of size told (slots ++ Some x ∷ []))
  created size told slots x none empty =
      let first : 0 + length slots ≡ length slots = omega arith in
      record {
        number = refl;
        fresh = λ h. let t = live_slot slots (length slots) h in absurd (omega (arith, t.0));
        live = rw first at (live_push slots 0 x);
        made = length-append slots (Some x ∷ []);
        empty = made_new size 0 slots x ∙ none;
        held = told_new told slots x empty;
        others = record { count = made_other size 0 slots x; tells = tells_still told slots (slots ++ Some x ∷ []); held = told_made told slots x };
      }

  -- a run that grew took its place
  pub grown : (size : X → ℕ) (told : Option (X → List FrameOf)) (slots : List (Option X)) (x y : X) (run : ℕ) (frame : FrameOf)
      → run < length slots → get_or slots run None ≡ Some x → size y ≡ size x + 1 → Told told (λ f. f y ≡ f x ++ frame ∷ [])
      → Grown run frame (runs_of size told slots) (runs_of size told (set slots run (Some y)))
  grown size told slots x y run frame lt is longer more =
      record {
        live = live_keep slots 0 run x y is;
        made = length-set slots run (Some y);
        longer = set_here size 0 slots y run lt ∙ longer ∙ ap (λ (n : ℕ). n + 1) (sym (held_here size 0 slots x run is));
        held = told_grown told slots x y run frame lt is more;
        others = record { count = set_other size 0 slots (Some y) run; tells = tells_still told slots (set slots run (Some y)); held = told_set told slots (Some y) run };
      }

  -- a slot was emptied
  pub removed : (size : X → ℕ) (told : Option (X → List FrameOf)) (slots : List (Option X)) (run : ℕ) → Removed run (runs_of size told slots) (runs_of size told (set slots run None))
  removed size told slots run =
      let first : 0 + run ≡ run = omega arith in
      record {
        live = rw first at (live_drop slots 0 run);
        made = length-set slots run None;
        others = record { count = set_other size 0 slots None run; tells = tells_still told slots (set slots run None); held = told_set told slots None run };
      }

  get_any : (slots : List (Option X)) (r : ℕ) (a b : Option X) → r < length slots → get_or slots r a ≡ get_or slots r b
  get_any [] r a b lt = absurd (omega (arith, lt))
  get_any (s ∷ slots) zero a b lt = refl
  get_any (s ∷ slots) (suc r) a b lt = get_any slots r a b (omega (arith, lt))

  pub live_below : (slots : List (Option X)) (r : ℕ) → Contains (live_from 0 slots) r → r < length slots
  live_below slots r h = (live_slot slots r h).0

  -- what is read from a live run's slot
  pub slot_here : {Y : Type 0} (f : X → Y) (none : Y) (slots : List (Option X)) (r : ℕ) (o : Option X)
      → Contains (live_from 0 slots) r → o ≡ get_or slots r o → of_run f none slots r ≡ option_map_or f o none
  slot_here f none slots r o h e = ap (λ s. option_map_or f s none) (get_any slots r None o (live_below slots r h) ∙ sym e)

-- a frame was put to the end of a run in memory
pub mem_grown : (slots : List (Option (List FrameOf))) (run : ℕ) (frame : FrameOf) (before after : Option (List FrameOf))
    → Contains (live_from 0 slots) run → before ≡ get_or slots run before → after ≡ option_map (λ frames. frames ++ frame ∷ []) before
    → Grown run frame (runs_of length (Some (λ frames. frames)) slots) (runs_of length (Some (λ frames. frames)) (set slots run after))
mem_grown slots run frame before after h read push =
    let t = live_slot slots run h in
    let held : before ≡ Some t.1 = read ∙ get_any slots run before None t.0 ∙ t.2 in
    let grew : after ≡ Some (t.1 ++ frame ∷ []) = push ∙ ap (option_map (λ frames. frames ++ frame ∷ [])) held in
    rw grew (grown length (Some (λ frames. frames)) slots t.1 (t.1 ++ frame ∷ []) run frame t.0 t.2 (length-append t.1 (frame ∷ [])) refl)

-- each slot that holds a run has one number
pub live_count : {X : Type 0} (slots : List (Option X)) (n : ℕ) → length (live_from n slots) ≡ count_by is_some slots
live_count [] n = refl
live_count (None ∷ slots) n =
    let more : count_by is_some (None ∷ slots) ≡ 0 + count_by is_some slots = sum_by-cons (λ o. cond (is_some o) 1 0) None slots in
    let none : count_by is_some slots ≡ 0 + count_by is_some slots = omega arith in
    live_count slots (n + 1) ∙ none ∙ sym more
live_count (Some x ∷ slots) n =
    let more : count_by is_some (Some x ∷ slots) ≡ 1 + count_by is_some slots = sum_by-cons (λ o. cond (is_some o) 1 0) (Some x) slots in
    let one : suc (count_by is_some slots) ≡ 1 + count_by is_some slots = omega arith in
    ap suc (live_count slots (n + 1)) ∙ one ∙ sym more

-- a frame was put to the end of a run in a folder
pub folder_grown : (slots : List (Option FolderRun)) (run : ℕ) (frame : FrameOf) (before after : Option FolderRun)
    → Contains (live_from 0 slots) run → before ≡ get_or slots run before → GrewByOne before after
    → Grown run frame (runs_in slots) (runs_in (set slots run after))
folder_grown slots run frame before after h read grew =
    let t = live_slot slots run h in
    let held : before ≡ Some t.1 = read ∙ get_any slots run before None t.0 ∙ t.2 in
    let more : GrewByOne (Some t.1) after = subst (λ o. GrewByOne o after) held grew in
    rw more.1 (grown count_in None slots t.1 more.0 run frame t.0 t.2 more.2 tt)

pub grew : {T E : Type 0} (r : Result T E) (before after : FolderRun) (slot : Option FolderRun)
    → slot ≡ Some before → OnOk r (count_in after ≡ count_in before + 1) → OnOk r (GrewByOne slot (Some after))
grew (Ok x) before after slot is h = subst (λ o. GrewByOne o (Some after)) (sym is) (after, refl, h)
grew (Err e) before after slot is h = tt
