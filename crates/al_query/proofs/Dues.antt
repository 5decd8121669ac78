-- The words and the files determine what is due, and what was written of a line is a part of it.
use Rattle.std.proofs.Common.{◌≡◌, ◌≢◌, ℕ, ◌≤◌, ◌⊎◌, List, [], ◌∷◌, ◌++◌, length, Bool, Option, None, Some, true, false, Result, Ok, Err, refl, ap, sym, subst, ◌∙◌, inl, inr, arith}
use Rattle.std.specs.Prelude.{OnOk, OnErr, ◌↔◌}
use Rattle.std.proofs.lemmas.List.{take_all}
use Rattle.al_value.specs.Outside.{Told}
use Rattle.al_io.specs.Outside.{Bytes, Files, GainsPrefix}
use Rattle.al_words.specs.declared.command.Command.{Command}
use Rattle.al_words.specs.declared.command.Command.TheVariants as C
use Rattle.al_words.specs.Words.{IsCommand}
use Rattle.al_plan.specs.declared.file.PlanFile.{PlanFile}
use Rattle.al_plan.specs.declared.file.Refused.{Refused}
use Rattle.al_plan.specs.Accept.{IsAccepted, accept_refusal}
use Rattle.al_plan.specs.Allows.{Faults}
use Rattle.al_plain.specs.declared.plan.Data.{Data}
use Rattle.al_plain.specs.Gives.{sets_of}
use Rattle.al_read.specs.Reads.{Reads, HasOneAnswer, IsReadRefusal}
use Rattle.al_query.specs.declared.status.DataRefused.{DataRefused}
use Rattle.al_query.specs.declared.status.Status.{Status}
use Rattle.al_query.specs.declared.status.Status.TheVariants as St
use Rattle.al_query.specs.Served.{IsPlan, IsPlanRefused, absent, unread, unaccepted, loaded, IsServed, IsText, IsBadData, IsFaulty, IsSound, is_served, plan_of, query_of, IsAsked, IsDue, IsDueOrCut, IsGood, is_settled}

-- ---- what a line's writing leaves

pub told_map : {X : Type 0} (o : Option X) (P Q : X → Type 0) → Told o P → ((x : X) → P x → Q x) → Told o Q
told_map None P Q h f = tt
told_map (Some x) P Q h f = f x h

pub told_both : {X : Type 0} (o : Option X) (P Q R : X → Type 0) → Told o P → Told o Q → ((x : X) → P x → Q x → R x) → Told o R
told_both None P Q R h k f = tt
told_both (Some x) P Q R h k f = f x h k

whole_line : (bytes old : Bytes) (now : Option Bytes) → now ≡ Some (old ++ bytes) → GainsPrefix old bytes now
whole_line bytes old now h =
    let few : length bytes ≤ length bytes = omega arith in
    (length bytes, few, h ∙ ap (λ (b : Bytes). Some (old ++ b)) (sym (take_all (length bytes) bytes few)))

pub some_line : {T E : Type 0} (r : Result T E) (was now : Option Bytes) (bytes : Bytes) → OnOk r (Told was (λ old. now ≡ Some (old ++ bytes))) → OnErr r (Told was (λ old. GainsPrefix old bytes now)) → Told was (λ old. GainsPrefix old bytes now)
some_line (Ok x) was now bytes h k = told_map was (λ old. now ≡ Some (old ++ bytes)) (λ old. GainsPrefix old bytes now) h (λ old. whole_line bytes old now)
some_line (Err e) was now bytes h k = k

-- ---- one command, one plan, one refusal

-- that texts have one reading, and that acceptance is exact
pub record IsOneText : Type 0 where
  pub reading : (bytes : Bytes) → HasOneAnswer bytes
  pub accepting : (f : PlanFile) → IsAccepted f ↔ (accept_refusal f ≡ None)

-- and that words have one command
pub record AreSingle : Type 0 where
  pub command : (words : List Bytes) (c d : Command) → IsCommand words c → IsCommand words d → c ≡ d
  pub texts : IsOneText

one_content : (file : Option Bytes) (a b : Bytes) → file ≡ Some a → file ≡ Some b → a ≡ b
one_content file a b h k = cc

pub one_plan : IsOneText → (file : Option Bytes) (f g : PlanFile) → IsPlan file f → IsPlan file g → f ≡ g
one_plan single file f g (a, there, is, good) (b, here, also, fine) = (single.reading b).file f g (subst (λ (bytes : Bytes). Reads bytes f) (one_content file a b there here) is) also

none_some : {X : Type 0} (o : Option X) (x : X) → o ≡ None → o ≡ Some x → ⊥
none_some o x h k = cc

pub no_plan : IsOneText → (file : Option Bytes) (r : Refused) (f : PlanFile) → IsPlanRefused file r → IsPlan file f → ⊥
no_plan single file r f (absent none is) (b, here, reads, good) = none_some file b none here
no_plan single file r f (unread a there bad) (b, here, reads, good) = (single.reading a).apart f r (subst (λ (bytes : Bytes). Reads bytes f) (one_content file b a here there) reads) bad
no_plan single file r f (unaccepted a there g is bad) (b, here, reads, good) =
    let same : g ≡ f = (single.reading b).file g f (subst (λ (bytes : Bytes). Reads bytes g) (one_content file a b there here) is) reads in
    none_some (accept_refusal f) r ((single.accepting f).0 good) (subst (λ (x : PlanFile). accept_refusal x ≡ Some r) same bad)

some_same : {X : Type 0} (o : Option X) (x y : X) → o ≡ Some x → o ≡ Some y → x ≡ y
some_same o x y h k = cc

pub one_refusal : IsOneText → (file : Option Bytes) (r s : Refused) → IsPlanRefused file r → IsPlanRefused file s → r ≡ s
one_refusal single file r s (absent none is) (absent none2 also) = is ∙ sym also
one_refusal single file r s (absent none is) (unread b here bad) = absurd (none_some file b none here)
one_refusal single file r s (absent none is) (unaccepted b here g reads bad) = absurd (none_some file b none here)
one_refusal single file r s (unread a there bad) (absent none is) = absurd (none_some file a none there)
one_refusal single file r s (unread a there bad) (unread b here worse) = (single.reading a).refused r s bad (subst (λ (bytes : Bytes). IsReadRefusal bytes s) (one_content file b a here there) worse)
one_refusal single file r s (unread a there bad) (unaccepted b here g reads worse) =
    absurd ((single.reading a).apart g r (subst (λ (bytes : Bytes). Reads bytes g) (one_content file b a here there) reads) bad)
one_refusal single file r s (unaccepted a there f reads bad) (absent none is) = absurd (none_some file a none there)
one_refusal single file r s (unaccepted a there f reads bad) (unread b here worse) =
    absurd ((single.reading b).apart f s (subst (λ (bytes : Bytes). Reads bytes f) (one_content file a b there here) reads) worse)
one_refusal single file r s (unaccepted a there f reads bad) (unaccepted b here g also worse) =
    let same : f ≡ g = (single.reading b).file f g (subst (λ (bytes : Bytes). Reads bytes f) (one_content file a b there here) reads) also in
    some_same (accept_refusal g) r s (subst (λ (x : PlanFile). accept_refusal x ≡ Some r) same bad) worse

-- ---- what a command asks for

text_served : (c : Command) (fs : Files) (text : Bytes) → IsText c fs text → is_served c ≡ true
text_served (C.Check plan) fs text h = refl
text_served (C.Explain plan partitions) fs text h = refl
text_served (C.Plain plan) fs text h = refl
text_served (C.Step plan settings schedule) fs text h = refl
text_served (C.Run plan settings workers) fs text h = absurd h
text_served (C.Gen seed rows) fs text h = refl
text_served (C.Drill seed rows plan settings) fs text h = absurd h
text_served (C.Frames plan dataset frame_size) fs text h = absurd h

plan_served : (c : Command) (plan : Bytes) → plan_of c ≡ Some plan → is_served c ≡ true
plan_served (C.Check name) plan h = refl
plan_served (C.Explain name partitions) plan h = refl
plan_served (C.Plain name) plan h = refl
plan_served (C.Step name settings schedule) plan h = refl
plan_served (C.Run name settings workers) plan h = cc
plan_served (C.Gen seed rows) plan h = refl
plan_served (C.Drill seed rows name settings) plan h = cc
plan_served (C.Frames name dataset frame_size) plan h = cc

query_plan : (c : Command) (plan : Bytes) → query_of c ≡ Some plan → plan_of c ≡ Some plan
query_plan (C.Check name) plan h = cc
query_plan (C.Explain name partitions) plan h = cc
query_plan (C.Plain name) plan h = h
query_plan (C.Step name settings schedule) plan h = h
query_plan (C.Run name settings workers) plan h = h
query_plan (C.Gen seed rows) plan h = h
query_plan (C.Drill seed rows name settings) plan h = h
query_plan (C.Frames name dataset frame_size) plan h = h

good_served : (c : Command) (fs : Files) → IsGood c fs → is_served c ≡ true
good_served (C.Check plan) fs h = refl
good_served (C.Explain plan partitions) fs h = refl
good_served (C.Plain plan) fs h = refl
good_served (C.Step plan settings schedule) fs h = refl
good_served (C.Run plan settings workers) fs h = absurd h
good_served (C.Gen seed rows) fs h = refl
good_served (C.Drill seed rows plan settings) fs h = absurd h
good_served (C.Frames plan dataset frame_size) fs h = absurd h

abbrev HasPlan : Files → Bytes → Type 0
HasPlan fs name = (f : PlanFile) × IsPlan (fs name) f

served_plan : (fs : Files) (name text : Bytes) → IsServed fs name text → HasPlan fs name
served_plan fs name text h = (h.file, h.plan)

at_name : (P : Bytes → Type 0) (own plan : Bytes) → Some own ≡ Some plan → P own → P plan
at_name P own plan e h = subst P (some_same (Some own) own plan refl e) h

text_plan : (c : Command) (fs : Files) (text plan : Bytes) → IsText c fs text → plan_of c ≡ Some plan → HasPlan fs plan
text_plan (C.Check name) fs text plan (f, is, e) k = at_name (HasPlan fs) name plan k (f, is)
text_plan (C.Explain name partitions) fs text plan h k = at_name (HasPlan fs) name plan k (h.file, h.plan)
text_plan (C.Plain name) fs text plan h k = at_name (HasPlan fs) name plan k (served_plan fs name text h)
text_plan (C.Step name settings schedule) fs text plan h k = at_name (HasPlan fs) name plan k (served_plan fs name text h)
text_plan (C.Run name settings workers) fs text plan h k = absurd h
text_plan (C.Gen seed rows) fs text plan h k = cc
text_plan (C.Drill seed rows name settings) fs text plan h k = absurd h
text_plan (C.Frames name dataset frame_size) fs text plan h k = absurd h

text_query : (c : Command) (fs : Files) (text plan : Bytes) → IsText c fs text → query_of c ≡ Some plan → IsServed fs plan text
text_query (C.Check name) fs text plan h k = cc
text_query (C.Explain name partitions) fs text plan h k = cc
text_query (C.Plain name) fs text plan h k = at_name (λ n. IsServed fs n text) name plan k h
text_query (C.Step name settings schedule) fs text plan h k = at_name (λ n. IsServed fs n text) name plan k h
text_query (C.Run name settings workers) fs text plan h k = absurd h
text_query (C.Gen seed rows) fs text plan h k = cc
text_query (C.Drill seed rows name settings) fs text plan h k = absurd h
text_query (C.Frames name dataset frame_size) fs text plan h k = absurd h

sound_plan : (fs : Files) (name : Bytes) → IsSound fs name → HasPlan fs name
sound_plan fs name (f, sets, is, good, none) = (f, is)

good_plan : (c : Command) (fs : Files) (plan : Bytes) → IsGood c fs → plan_of c ≡ Some plan → HasPlan fs plan
good_plan (C.Check name) fs plan h k = at_name (HasPlan fs) name plan k h
good_plan (C.Explain name partitions) fs plan h k = at_name (HasPlan fs) name plan k h
good_plan (C.Plain name) fs plan h k = at_name (HasPlan fs) name plan k (sound_plan fs name h)
good_plan (C.Step name settings schedule) fs plan h k = at_name (HasPlan fs) name plan k (sound_plan fs name h)
good_plan (C.Run name settings workers) fs plan h k = absurd h
good_plan (C.Gen seed rows) fs plan h k = cc
good_plan (C.Drill seed rows name settings) fs plan h k = absurd h
good_plan (C.Frames name dataset frame_size) fs plan h k = absurd h

good_query : (c : Command) (fs : Files) (plan : Bytes) → IsGood c fs → query_of c ≡ Some plan → IsSound fs plan
good_query (C.Check name) fs plan h k = cc
good_query (C.Explain name partitions) fs plan h k = cc
good_query (C.Plain name) fs plan h k = at_name (IsSound fs) name plan k h
good_query (C.Step name settings schedule) fs plan h k = at_name (IsSound fs) name plan k h
good_query (C.Run name settings workers) fs plan h k = absurd h
good_query (C.Gen seed rows) fs plan h k = cc
good_query (C.Drill seed rows name settings) fs plan h k = absurd h
good_query (C.Frames name dataset frame_size) fs plan h k = absurd h

-- ---- a status that is due

not_both : (b : Bool) → b ≡ true → b ≡ false → ⊥
not_both b h k = cc

refused_and_plan : AreSingle → (fs : Files) (plan : Bytes) (r : Refused) → IsPlanRefused (fs plan) r → HasPlan fs plan → ⊥
refused_and_plan single fs plan r bad (f, is) = no_plan single.texts (fs plan) r f bad is

ok_err : {X E : Type 0} (r : Result X E) (x : X) (e : E) → r ≡ Ok x → r ≡ Err e → ⊥
ok_err r x e h k = cc

same_err : {X E : Type 0} (r : Result X E) (d e : E) → r ≡ Err d → r ≡ Err e → d ≡ e
same_err r d e h k = cc

same_ok : {X E : Type 0} (r : Result X E) (d e : X) → r ≡ Ok d → r ≡ Ok e → d ≡ e
same_ok r d e h k = cc

-- data can't be both good and bad
bad_and_good : AreSingle → (fs : Files) (plan : Bytes) (d : DataRefused) (g : PlanFile) (sets : List Data) → IsBadData fs plan d → IsPlan (fs plan) g → loaded fs 0 g.datasets ≡ Ok sets → ⊥
bad_and_good single fs plan d g sets (f, is, bad) also good = ok_err (loaded fs 0 g.datasets) sets d good (subst (λ (x : PlanFile). loaded fs 0 x.datasets ≡ Err d) (one_plan single.texts (fs plan) f g is also) bad)

one_bad_data : AreSingle → (fs : Files) (plan : Bytes) (d e : DataRefused) → IsBadData fs plan d → IsBadData fs plan e → d ≡ e
one_bad_data single fs plan d e (f, is, bad) (g, also, worse) = same_err (loaded fs 0 g.datasets) d e (subst (λ (x : PlanFile). loaded fs 0 x.datasets ≡ Err d) (one_plan single.texts (fs plan) f g is also) bad) worse

bad_and_sound : AreSingle → (fs : Files) (plan : Bytes) (d : DataRefused) → IsBadData fs plan d → IsSound fs plan → ⊥
bad_and_sound single fs plan d bad (g, sets, also, fine, none) = bad_and_good single fs plan d g sets bad also fine

faulty_and_sound : AreSingle → (fs : Files) (plan own : Bytes) → IsFaulty fs plan own → IsSound fs plan → ⊥
faulty_and_sound single fs plan own (f, sets, is, good, fault) (g, others, also, fine, none) =
    let same : f ≡ g = one_plan single.texts (fs plan) f g is also in
    let read : loaded fs 0 g.datasets ≡ Ok sets = subst (λ (x : PlanFile). loaded fs 0 x.datasets ≡ Ok sets) same good in
    let rows : sets ≡ others = same_ok (loaded fs 0 g.datasets) sets others read fine in
    none own (subst (λ (xs : List Data). Faults g.root (sets_of xs) [] [] own) rows (subst (λ (x : PlanFile). Faults x.root (sets_of sets) [] [] own) same fault))

-- what a command asks for, where it asks for a refusal
settled_is : AreSingle → (c : Command) (fs : Files) (status due : Status) → IsAsked c fs status → is_settled due ≡ true → IsAsked c fs due → IsDueOrCut due status
settled_is single c fs St.SourceFault due h s k = inr refl
settled_is single c fs St.NoMemory due h s k = inr refl
settled_is single c fs status St.SourceFault h s k = cc
settled_is single c fs status St.SinkFault h s k = cc
settled_is single c fs status St.NoMemory h s k = cc
settled_is single c fs status St.Done h s k = cc
settled_is single c fs status (St.CheckFailed own) h s k = cc
settled_is single c fs St.Usage St.Usage h s k = inl refl
settled_is single c fs St.Usage (St.PlanRefused r) h s (plan, of, bad) = absurd (not_both (is_served c) (plan_served c plan of) h)
settled_is single c fs St.Usage (St.DataRefused d) h s (plan, of, bad) = absurd (not_both (is_served c) (plan_served c plan (query_plan c plan of)) h)
settled_is single c fs St.Done St.Usage (text, is) s k = absurd (not_both (is_served c) (text_served c fs text is) k)
settled_is single c fs St.Done (St.PlanRefused r) (text, is) s (plan, of, bad) = absurd (refused_and_plan single fs plan r bad (text_plan c fs text plan is of))
settled_is single c fs St.Done (St.DataRefused d) (text, is) s (plan, of, bad) =
    let served : IsServed fs plan text = text_query c fs text plan is of in absurd (bad_and_good single fs plan d served.file served.sets bad served.plan served.data_read)
settled_is single c fs St.SinkFault St.Usage (text, is) s k = absurd (not_both (is_served c) (text_served c fs text is) k)
settled_is single c fs St.SinkFault (St.PlanRefused r) (text, is) s (plan, of, bad) = absurd (refused_and_plan single fs plan r bad (text_plan c fs text plan is of))
settled_is single c fs St.SinkFault (St.DataRefused d) (text, is) s (plan, of, bad) =
    let served : IsServed fs plan text = text_query c fs text plan is of in absurd (bad_and_good single fs plan d served.file served.sets bad served.plan served.data_read)
settled_is single c fs (St.PlanRefused r) St.Usage (plan, of, bad) s k = absurd (not_both (is_served c) (plan_served c plan of) k)
settled_is single c fs (St.PlanRefused r) (St.PlanRefused q) (plan, of, bad) s (name, is, worse) =
    inl (ap St.PlanRefused (one_refusal single.texts (fs name) r q (subst (λ (n : Bytes). IsPlanRefused (fs n) r) (some_same (plan_of c) plan name of is) bad) worse))
settled_is single c fs (St.PlanRefused r) (St.DataRefused d) (plan, of, bad) s (name, is, (f, here, worse)) =
    absurd (refused_and_plan single fs name r (subst (λ (n : Bytes). IsPlanRefused (fs n) r) (some_same (plan_of c) plan name of (query_plan c name is)) bad) (f, here))
settled_is single c fs (St.DataRefused d) St.Usage (plan, of, bad) s k = absurd (not_both (is_served c) (plan_served c plan (query_plan c plan of)) k)
settled_is single c fs (St.DataRefused d) (St.PlanRefused r) (name, is, (f, here, worse)) s (plan, of, bad) =
    absurd (refused_and_plan single fs name r (subst (λ (n : Bytes). IsPlanRefused (fs n) r) (some_same (plan_of c) plan name of (query_plan c name is)) bad) (f, here))
settled_is single c fs (St.DataRefused d) (St.DataRefused e) (plan, of, bad) s (name, is, worse) =
    inl (ap St.DataRefused (one_bad_data single fs name d e (subst (λ (n : Bytes). IsBadData fs n d) (some_same (query_of c) plan name of is) bad) worse))
settled_is single c fs (St.CheckFailed own) St.Usage (plan, of, bad) s k = absurd (not_both (is_served c) (plan_served c plan (query_plan c plan of)) k)
settled_is single c fs (St.CheckFailed own) (St.PlanRefused r) (name, is, (f, sets, here, good, fault)) s (plan, of, bad) =
    absurd (refused_and_plan single fs name r (subst (λ (n : Bytes). IsPlanRefused (fs n) r) (some_same (plan_of c) plan name of (query_plan c name is)) bad) (f, here))
settled_is single c fs (St.CheckFailed own) (St.DataRefused d) (name, is, (f, sets, here, good, fault)) s (plan, of, bad) =
    absurd (bad_and_good single fs name d f sets (subst (λ (n : Bytes). IsBadData fs n d) (some_same (query_of c) plan name of is) bad) here good)

-- the words' command is one, so what it asks for may be compared
compared : AreSingle → (words : List Bytes) (fs : Files) (status due : Status) (c d : Command) → IsCommand words c → IsCommand words d → IsAsked c fs status → is_settled due ≡ true → IsAsked d fs due → IsDueOrCut due status
compared single words fs status due c d is also h s k = settled_is single d fs status due (subst (λ (x : Command). IsAsked x fs status) (single.command words c d is also) h) s k

due_is : AreSingle → (words : List Bytes) (fs : Files) (status due : Status) → IsDue words fs status → is_settled due ≡ true → IsDue words fs due → IsDueOrCut due status
due_is single words fs St.SourceFault due h s k = inr refl
due_is single words fs St.NoMemory due h s k = inr refl
due_is single words fs status St.SourceFault h s k = cc
due_is single words fs status St.SinkFault h s k = cc
due_is single words fs status St.NoMemory h s k = cc
due_is single words fs status St.Done h s k = cc
due_is single words fs status (St.CheckFailed own) h s k = cc
due_is single words fs St.Usage St.Usage h s k = inl refl
due_is single words fs St.Usage (St.PlanRefused r) h s (c, is, k) = settled_is single c fs St.Usage (St.PlanRefused r) (h c is) s k
due_is single words fs St.Usage (St.DataRefused d) h s (c, is, k) = settled_is single c fs St.Usage (St.DataRefused d) (h c is) s k
due_is single words fs St.Done St.Usage (c, is, h) s k = settled_is single c fs St.Done St.Usage h s (k c is)
due_is single words fs St.Done (St.PlanRefused r) (c, is, h) s (d, also, k) = compared single words fs St.Done (St.PlanRefused r) c d is also h s k
due_is single words fs St.Done (St.DataRefused e) (c, is, h) s (d, also, k) = compared single words fs St.Done (St.DataRefused e) c d is also h s k
due_is single words fs St.SinkFault St.Usage (c, is, h) s k = settled_is single c fs St.SinkFault St.Usage h s (k c is)
due_is single words fs St.SinkFault (St.PlanRefused r) (c, is, h) s (d, also, k) = compared single words fs St.SinkFault (St.PlanRefused r) c d is also h s k
due_is single words fs St.SinkFault (St.DataRefused e) (c, is, h) s (d, also, k) = compared single words fs St.SinkFault (St.DataRefused e) c d is also h s k
due_is single words fs (St.PlanRefused q) St.Usage (c, is, h) s k = settled_is single c fs (St.PlanRefused q) St.Usage h s (k c is)
due_is single words fs (St.PlanRefused q) (St.PlanRefused r) (c, is, h) s (d, also, k) = compared single words fs (St.PlanRefused q) (St.PlanRefused r) c d is also h s k
due_is single words fs (St.PlanRefused q) (St.DataRefused e) (c, is, h) s (d, also, k) = compared single words fs (St.PlanRefused q) (St.DataRefused e) c d is also h s k
due_is single words fs (St.DataRefused q) St.Usage (c, is, h) s k = settled_is single c fs (St.DataRefused q) St.Usage h s (k c is)
due_is single words fs (St.DataRefused q) (St.PlanRefused r) (c, is, h) s (d, also, k) = compared single words fs (St.DataRefused q) (St.PlanRefused r) c d is also h s k
due_is single words fs (St.DataRefused q) (St.DataRefused e) (c, is, h) s (d, also, k) = compared single words fs (St.DataRefused q) (St.DataRefused e) c d is also h s k
due_is single words fs (St.CheckFailed own) St.Usage (c, is, h) s k = settled_is single c fs (St.CheckFailed own) St.Usage h s (k c is)
due_is single words fs (St.CheckFailed own) (St.PlanRefused r) (c, is, h) s (d, also, k) = compared single words fs (St.CheckFailed own) (St.PlanRefused r) c d is also h s k
due_is single words fs (St.CheckFailed own) (St.DataRefused e) (c, is, h) s (d, also, k) = compared single words fs (St.CheckFailed own) (St.DataRefused e) c d is also h s k

abbrev Ends : Status → Type 0
Ends status = (status ≡ St.Done) ⊎ (status ≡ St.NoMemory)

-- a command with good files ends well
good_ends : AreSingle → (c : Command) (fs : Files) (status : Status) (Source Sink : Type 0) → IsAsked c fs status → (status ≡ St.SourceFault → Source) → (status ≡ St.SinkFault → Sink) → IsGood c fs → ¬ Source → ¬ Sink → Ends status
good_ends single c fs St.Done Source Sink h source sink good quiet calm = inl refl
good_ends single c fs St.NoMemory Source Sink h source sink good quiet calm = inr refl
good_ends single c fs St.SourceFault Source Sink h source sink good quiet calm = absurd (quiet (source refl))
good_ends single c fs St.SinkFault Source Sink h source sink good quiet calm = absurd (calm (sink refl))
good_ends single c fs St.Usage Source Sink h source sink good quiet calm = absurd (not_both (is_served c) (good_served c fs good) h)
good_ends single c fs (St.PlanRefused r) Source Sink (plan, of, bad) source sink good quiet calm = absurd (refused_and_plan single fs plan r bad (good_plan c fs plan good of))
good_ends single c fs (St.DataRefused d) Source Sink (plan, of, bad) source sink good quiet calm = absurd (bad_and_sound single fs plan d bad (good_query c fs plan good of))
good_ends single c fs (St.CheckFailed own) Source Sink (plan, of, bad) source sink good quiet calm = absurd (faulty_and_sound single fs plan own bad (good_query c fs plan good of))

ends_by : AreSingle → (words : List Bytes) (fs : Files) (status : Status) (c d : Command) (Source Sink : Type 0) → IsCommand words c → IsCommand words d → IsAsked c fs status → (status ≡ St.SourceFault → Source) → (status ≡ St.SinkFault → Sink) → IsGood d fs → ¬ Source → ¬ Sink → Ends status
ends_by single words fs status c d Source Sink is also h source sink good quiet calm =
    good_ends single d fs status Source Sink (subst (λ (x : Command). IsAsked x fs status) (single.command words c d is also) h) source sink good quiet calm

done_or_memory : AreSingle → (words : List Bytes) (fs : Files) (status : Status) (d : Command) (Source Sink : Type 0) → IsDue words fs status → (status ≡ St.SourceFault → Source) → (status ≡ St.SinkFault → Sink) → IsCommand words d → IsGood d fs → ¬ Source → ¬ Sink → Ends status
done_or_memory single words fs St.Done d Source Sink h source sink is good quiet calm = inl refl
done_or_memory single words fs St.NoMemory d Source Sink h source sink is good quiet calm = inr refl
done_or_memory single words fs St.SourceFault d Source Sink h source sink is good quiet calm = absurd (quiet (source refl))
done_or_memory single words fs St.SinkFault d Source Sink h source sink is good quiet calm = absurd (calm (sink refl))
done_or_memory single words fs St.Usage d Source Sink h source sink is good quiet calm = good_ends single d fs St.Usage Source Sink (h d is) source sink good quiet calm
done_or_memory single words fs (St.PlanRefused r) d Source Sink (c, also, h) source sink is good quiet calm = ends_by single words fs (St.PlanRefused r) c d Source Sink also is h source sink good quiet calm
done_or_memory single words fs (St.DataRefused r) d Source Sink (c, also, h) source sink is good quiet calm = ends_by single words fs (St.DataRefused r) c d Source Sink also is h source sink good quiet calm
done_or_memory single words fs (St.CheckFailed own) d Source Sink (c, also, h) source sink is good quiet calm = ends_by single words fs (St.CheckFailed own) c d Source Sink also is h source sink good quiet calm

pub told_due : AreSingle → (files : Option Files) (words : List Bytes) (status : Status) → Told files (λ fs. IsDue words fs status) → Told files (λ fs. (due : Status) → is_settled due ≡ true → IsDue words fs due → IsDueOrCut due status)
told_due single files words status h =
    told_map files (λ fs. IsDue words fs status) (λ fs. (due : Status) → is_settled due ≡ true → IsDue words fs due → IsDueOrCut due status) h (λ fs is due s k. due_is single words fs status due is s k)

-- good words and files bring an answer or want of memory, where nothing outside failed
pub told_complete : AreSingle → (files : Option Files) (words : List Bytes) (status : Status) (Source Sink : Type 0) → Told files (λ fs. IsDue words fs status) → (status ≡ St.SourceFault → Source) → (status ≡ St.SinkFault → Sink)
    → Told files (λ fs. (c : Command) → IsCommand words c → IsGood c fs → ¬ Source → ¬ Sink → (status ≡ St.Done) ⊎ (status ≡ St.NoMemory))
told_complete single files words status Source Sink h source sink =
    told_map files (λ fs. IsDue words fs status) (λ fs. (c : Command) → IsCommand words c → IsGood c fs → ¬ Source → ¬ Sink → (status ≡ St.Done) ⊎ (status ≡ St.NoMemory)) h
    (λ fs is c asked good no_source no_sink. done_or_memory single words fs status c Source Sink is source sink asked good no_source no_sink)
