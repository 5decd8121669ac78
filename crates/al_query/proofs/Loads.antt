-- Datasets that are loaded one after the other, and what that tells.
use Rattle.std.proofs.Common.{◌≡◌, ℕ, ◌+◌, ◌-◌, ◌≤◌, ◌<◌, List, [], ◌∷◌, ◌++◌, length, take, drop, get_or, Bool, Option, None, Some, true, false, Result, Ok, Err, refl, ap, sym, subst, ◌∙◌, arith, suc, add-one, append-nil, append_assoc, drop-cons}
use Rattle.std.proofs.Math.Seq.{take-suc}
use Rattle.std.proofs.lemmas.List.{drop_all}
use Rattle.std.specs.Prelude.{nat_eq, nat_le, if◌then◌else◌, min}
use Rattle.std.specs.List.{All}
use Rattle.std.specs.Cmp.Lexicographic.{pointwise}
use Rattle.al_value.specs.declared.value.Value.{Value}
use Rattle.al_value.specs.Outside.{Told}
use Rattle.al_io.specs.Outside.{Bytes, Files}
use Rattle.al_csv.specs.Records.{records}
use Rattle.al_csv.specs.declared.decl.Decl.{Decl}
use Rattle.al_csv.specs.declared.refused.BadRecord.{BadRecord}
use Rattle.al_plain.specs.declared.plan.Data.{Data}
use Rattle.al_query.specs.declared.status.DataRefused.{DataRefused}
use Rattle.al_plan.specs.declared.file.PlanFile.{PlanFile}
use Rattle.al_plan.specs.Accept.{declared}
use Rattle.al_plan.specs.Refines.{Fills, scans}
use Rattle.al_infer.specs.Laws.{IsOfDataset}
use Rattle.al_plain.specs.Gives.{sets_of}
use Rattle.al_query.specs.declared.status.Status.{Status}
use Rattle.al_query.specs.declared.status.Status.TheVariants as St
use Rattle.al_query.specs.declared.data.Loaded.{Loaded}
use Rattle.al_query.specs.Served.{file_rows, size_of, with_set, loaded}
use Rattle.al_query.specs.Tells.{AreSetsOf, TellsData, TellsSet}
use Rattle.al_query.proofs.Dues.{told_map, told_both}

-- datasets in front of the others, or the refusal
abbrev pub prepend : List Data → Result (List Data) DataRefused → Result (List Data) DataRefused
prepend sets (Ok others) = Ok (sets ++ others)
prepend sets (Err e) = Err e

pub loaded_none : (fs : Files) (before : ℕ) → loaded fs before [] ≡ Ok []
unfolding loaded
loaded_none fs before = refl

pub loaded_cons : (fs : Files) (before : ℕ) (d : Decl) (ds : List Decl) → loaded fs before (d ∷ ds) ≡ with_set d (file_rows before d (fs d.file)) (loaded fs (before + size_of (fs d.file)) ds)
unfolding loaded
loaded_cons fs before d ds = refl

prepend_none : (r : Result (List Data) DataRefused) → prepend [] r ≡ r
prepend_none (Ok sets) = refl
prepend_none (Err e) = refl

some_is : {X : Type 0} (x y : X) → Some x ≡ Some y → x ≡ y
some_is x y e = cc

prepend_one : (sets : List Data) (d : Decl) (rows : List (List Value)) (others : Result (List Data) DataRefused) → prepend sets (with_set d (Ok rows) others) ≡ prepend (sets ++ (record { name = d.name; rows = rows } ∷ [])) others
prepend_one sets d rows (Ok others) = ap Ok (sym (append_assoc sets (record { name = d.name; rows = rows } ∷ []) others))
prepend_one sets d rows (Err e) = refl

-- the datasets so far, before those that are left
abbrev pub LoadedSoFar : Files → List Decl → List Decl → ℕ → List Data → Type 0
LoadedSoFar fs decls left before sets = loaded fs 0 decls ≡ prepend sets (loaded fs before left)

pub so_far_start : (fs : Files) (decls : List Decl) → LoadedSoFar fs decls decls 0 []
so_far_start fs decls = sym (prepend_none (loaded fs 0 decls))

pub so_far_more : (fs : Files) (decls left : List Decl) (before : ℕ) (sets : List Data) (d : Decl) (x : Data) (size : ℕ) → LoadedSoFar fs decls (d ∷ left) before sets
    → file_rows before d (fs d.file) ≡ Ok x.rows → x.name ≡ d.name → size ≡ size_of (fs d.file) → LoadedSoFar fs decls left (before + size) (sets ++ (x ∷ []))
so_far_more fs decls left before sets d x size so_far rows name same =
    so_far ∙ ap (prepend sets) (loaded_cons fs before d left ∙ ap (λ r. with_set d r (loaded fs (before + size_of (fs d.file)) left)) rows)
    ∙ prepend_one sets d x.rows (loaded fs (before + size_of (fs d.file)) left)
    ∙ ap (λ (n : Bytes). prepend (sets ++ (record { name = n; rows = x.rows } ∷ [])) (loaded fs (before + size_of (fs d.file)) left)) (sym name)
    ∙ ap (λ (n : ℕ). prepend (sets ++ (x ∷ [])) (loaded fs (before + n) left)) (sym same)

pub so_far_bad : (fs : Files) (decls left : List Decl) (before : ℕ) (sets : List Data) (d : Decl) (r : DataRefused) → LoadedSoFar fs decls (d ∷ left) before sets
    → r.file ≡ d.file → file_rows before d (fs d.file) ≡ Err r.bad → loaded fs 0 decls ≡ Err r
so_far_bad fs decls left before sets d r so_far file bad =
    so_far ∙ ap (prepend sets) (loaded_cons fs before d left ∙ ap (λ x. with_set d x (loaded fs (before + size_of (fs d.file)) left)) bad)
    ∙ ap (λ (n : Bytes). Err (record { file = n; bad = r.bad })) (sym file)

pub so_far_end : (fs : Files) (decls : List Decl) (before : ℕ) (sets : List Data) → LoadedSoFar fs decls [] before sets → loaded fs 0 decls ≡ Ok sets
so_far_end fs decls before sets so_far = so_far ∙ ap (prepend sets) (loaded_none fs before) ∙ ap Ok (append-nil sets)

-- ---- through the loop

left_of : (decls : List Decl) (i : ℕ) (d : Decl) → i < length decls → d ≡ get_or decls i d → drop i decls ≡ d ∷ drop (i + 1) decls
left_of decls i d h same = rw (add-one, drop-cons decls i d h) (ap (λ (x : Decl). x ∷ drop (suc i) decls) (sym same))

pub told_start : (files : Option Files) (decls : List Decl) → Told files (λ fs. LoadedSoFar fs decls decls 0 [])
told_start None decls = tt
told_start (Some fs) decls = so_far_start fs decls

pub told_more : (files later : Option Files) (decls : List Decl) (i before : ℕ) (sets : List Data) (d : Decl) (l : Loaded) → i < length decls → d ≡ get_or decls i d → later ≡ files
    → Told files (λ fs. LoadedSoFar fs decls (drop i decls) before sets) → Told later (λ fs. TellsSet before d (fs d.file) (Ok l)) → Told files (λ fs. LoadedSoFar fs decls (drop (i + 1) decls) (before + l.size) (sets ++ (l.data ∷ [])))
told_more files later decls i before sets d l h same files_same so_far told =
    told_both files (λ fs. LoadedSoFar fs decls (drop i decls) before sets) (λ fs. TellsSet before d (fs d.file) (Ok l)) (λ fs. LoadedSoFar fs decls (drop (i + 1) decls) (before + l.size) (sets ++ (l.data ∷ []))) so_far
    (subst (λ (o : Option Files). Told o (λ fs. TellsSet before d (fs d.file) (Ok l))) files_same told)
    (λ fs had got. so_far_more fs decls (drop (i + 1) decls) before sets d l.data l.size (subst (λ (ds : List Decl). LoadedSoFar fs decls ds before sets) (left_of decls i d h same) had) got.0 got.1 got.2)

data_stopped : (fs : Files) (decls left : List Decl) (before : ℕ) (sets : List Data) (d : Decl) (status : Status) → LoadedSoFar fs decls (d ∷ left) before sets → TellsSet before d (fs d.file) (Err status) → TellsData fs decls (Err status)
data_stopped fs decls left before sets d (St.DataRefused r) so_far (file, bad) = so_far_bad fs decls left before sets d r so_far file bad
data_stopped fs decls left before sets d St.SourceFault so_far h = tt
data_stopped fs decls left before sets d St.NoMemory so_far h = tt
data_stopped fs decls left before sets d St.Done so_far h = h
data_stopped fs decls left before sets d St.Usage so_far h = h
data_stopped fs decls left before sets d (St.PlanRefused r) so_far h = h
data_stopped fs decls left before sets d (St.CheckFailed own) so_far h = h
data_stopped fs decls left before sets d St.SinkFault so_far h = h

pub told_stopped_data : (files later : Option Files) (decls : List Decl) (i before : ℕ) (sets : List Data) (d : Decl) (status : Status) → i < length decls → d ≡ get_or decls i d → later ≡ files
    → Told files (λ fs. LoadedSoFar fs decls (drop i decls) before sets) → Told later (λ fs. TellsSet before d (fs d.file) (Err status)) → Told files (λ fs. TellsData fs decls (Err status))
told_stopped_data files later decls i before sets d status h same files_same so_far told =
    told_both files (λ fs. LoadedSoFar fs decls (drop i decls) before sets) (λ fs. TellsSet before d (fs d.file) (Err status)) (λ fs. TellsData fs decls (Err status)) so_far
    (subst (λ (o : Option Files). Told o (λ fs. TellsSet before d (fs d.file) (Err status))) files_same told)
    (λ fs had got. data_stopped fs decls (drop (i + 1) decls) before sets d status (subst (λ (ds : List Decl). LoadedSoFar fs decls ds before sets) (left_of decls i d h same) had) got)

pub told_end : (files : Option Files) (decls : List Decl) (i before : ℕ) (sets : List Data) → length decls ≤ i → Told files (λ fs. LoadedSoFar fs decls (drop i decls) before sets) → Told files (λ fs. TellsData fs decls (Ok sets))
told_end files decls i before sets h so_far =
    told_map files (λ fs. LoadedSoFar fs decls (drop i decls) before sets) (λ fs. TellsData fs decls (Ok sets)) so_far
    (λ fs had. so_far_end fs decls before sets (subst (λ (ds : List Decl). LoadedSoFar fs decls ds before sets) (drop_all i decls h) had))

sets_append : (decls more : List Decl) (sets others : List Data) → AreSetsOf decls sets → AreSetsOf more others → AreSetsOf (decls ++ more) (sets ++ others)
sets_append [] more [] others h k = k
sets_append [] more (x ∷ sets) others h k = absurd h
sets_append (d ∷ decls) more [] others h k = absurd h
sets_append (d ∷ decls) more (x ∷ sets) others (name, wide, h) k = (name, wide, sets_append decls more sets others h k)

pub sets_more : (decls : List Decl) (i : ℕ) (sets : List Data) (d : Decl) (x : Data) → i < length decls → d ≡ get_or decls i d → AreSetsOf (take i decls) sets → x.name ≡ d.name → All (λ row. length row ≡ length d.columns) x.rows
    → AreSetsOf (take (i + 1) decls) (sets ++ (x ∷ []))
sets_more decls i sets d x h same so_far name wide =
    subst (λ (ds : List Decl). AreSetsOf ds (sets ++ (x ∷ []))) (sym (rw (add-one, take-suc decls i d h) (ap (λ (y : Decl). take i decls ++ (y ∷ [])) (sym same))))
    (sets_append (take i decls) (d ∷ []) sets (x ∷ []) so_far (name, wide, tt))

-- ---- what scans find

-- the rows of the first dataset or of the others
found : (x : Decl) (s : Data) (sets : List Data) (q : Bytes) (b : Bool) → s.name ≡ x.name → pointwise nat_eq x.name q ≡ b → sets_of (s ∷ sets) q ≡ (if b then s.rows else sets_of sets q)
found x s sets q b name at = ap (λ (n : Bytes). if pointwise nat_eq n q then s.rows else sets_of sets q) name ∙ ap (λ (c : Bool). if c then s.rows else sets_of sets q) at

named : (x : Decl) (decls : List Decl) (q : Bytes) (d : Decl) (b : Bool) → pointwise nat_eq x.name q ≡ b → declared (x ∷ decls) q ≡ Some d → (if b then Some x else declared decls q) ≡ Some d
named x decls q d b at e = ap (λ (c : Bool). if c then Some x else declared decls q) (sym at) ∙ e

fill_by : (x : Decl) (decls : List Decl) (s : Data) (sets : List Data) (q : Bytes) (d : Decl) (b : Bool) → pointwise nat_eq x.name q ≡ b → s.name ≡ x.name → All (λ row. length row ≡ length x.columns) s.rows → declared (x ∷ decls) q ≡ Some d
    → (declared decls q ≡ Some d → All (λ row. length row ≡ length d.columns) (sets_of sets q)) → All (λ row. length row ≡ length d.columns) (sets_of (s ∷ sets) q)
fill_by x decls s sets q d true at name wide e others =
    subst (All (λ row. length row ≡ length d.columns)) (sym (found x s sets q true name at)) (subst (λ (y : Decl). All (λ row. length row ≡ length y.columns) s.rows) (some_is x d (named x decls q d true at e)) wide)
fill_by x decls s sets q d false at name wide e others =
    subst (All (λ row. length row ≡ length d.columns)) (sym (found x s sets q false name at)) (others (named x decls q d false at e))

pub sets_fill : (decls : List Decl) (sets : List Data) (q : Bytes) (d : Decl) → AreSetsOf decls sets → declared decls q ≡ Some d → All (λ row. length row ≡ length d.columns) (sets_of sets q)
sets_fill [] sets q d h e = cc
sets_fill (x ∷ decls) [] q d h e = absurd h
sets_fill (x ∷ decls) (s ∷ sets) q d (name, wide, h) e = fill_by x decls s sets q d (pointwise nat_eq x.name q) refl name wide e (λ f. sets_fill decls sets q d h f)

-- the datasets of an accepted file are as wide as the scans of its plan
pub scans_fill : (f : PlanFile) (sets : List Data) → All (IsOfDataset f.datasets) (scans f.root) → AreSetsOf f.datasets sets → Fills (scans f.root) (sets_of sets)
scans_fill f sets scanned h k d low =
    let of = scanned k d low in
    let s = get_or (scans f.root) k d in
    subst (λ (n : ℕ). All (λ row. length row ≡ n) (sets_of sets s.0)) (sym of.2) (sets_fill f.datasets sets s.0 of.0 h of.1)
