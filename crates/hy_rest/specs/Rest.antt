-- What may still be put for what is still to be taken, by the two forms in which tasks and their parts say it, and the laws of
-- both forms.
use Rattle.std.specs.Prelude.{◌≡◌, ℕ, Bool, true, false, List, [], ◌∷◌, ◌++◌}
use Rattle.std.specs.List.Sorted.{IsPermutation}

-- in order: what is owed, and then the output over what is held and what is still to be taken
pub record InOrder {F A : Type 0} (owed : List A) (held : List F) (out : List F → List A → Type 0) (took : List F) (put : List A) : Type 0 where
  pub rest : List A
  pub output : out (held ++ took) rest
  pub is : put ≡ owed ++ rest

-- free: the same in any order, and where nothing is owed the output itself
pub record Free {F A : Type 0} (owed : List A) (held : List F) (out : List F → List A → Type 0) (took : List F) (put : List A) : Type 0 where
  pub rest : List A
  pub output : out (held ++ took) rest
  pub among : IsPermutation (owed ++ rest) put
  pub alone : owed ≡ [] → put ≡ rest

-- free, for each list of rows that a state which keeps no rows may stand for
abbrev pub FreeForEach : {F A : Type 0} → List A → (List F → Type 0) → (List F → List A → Type 0) → List F → List A → Type 0
FreeForEach {F} {A} owed stands out took put = (held : List F) → stands held → Free owed held out took put

-- nothing comes of an input that has ended
abbrev pub IsOpen : {A : Type 0} → (ℕ → Bool) → List (ℕ × A) → Type 0
IsOpen ended [] = Unit {0}
IsOpen ended (x ∷ xs) = (ended x.0 ≡ false) × IsOpen ended xs

-- what the new state may do, the old one may do with this taken and put first
pub record Continues {F A : Type 0} (old : List F → List A → Type 0) (fed : List F) (sent : List A) (new : List F → List A → Type 0) : Type 0 where
  pub back : (took : List F) (put : List A) → new took put → old (fed ++ took) (sent ++ put)

-- for each way in which the taking may go on there is something that may be put
abbrev pub Alive : {F A : Type 0} → (List F → Type 0) → (List F → List A → Type 0) → Type 0
Alive {F} {A} may rest = (took : List F) → may took → (put : List A) × rest took put

-- to take nothing any more and to put nothing is all that it may do, and that it may
pub record Finished {F A : Type 0} (rest : List F → List A → Type 0) : Type 0 where
  pub some : rest [] []
  pub only : (took : List F) (put : List A) → rest took put → (took ≡ []) × (put ≡ [])

-- to take nothing any more and to put just this is all that it may do, and that it may
pub record FinishedWith {F A : Type 0} (last : List A) (rest : List F → List A → Type 0) : Type 0 where
  pub some : rest [] last
  pub only : (took : List F) (put : List A) → rest took put → (took ≡ []) × (put ≡ last)

-- what comes in goes through others before it is worked on, and what is made before it is put: what is taken is this to the one
-- that works, and what it then makes is put as this
pub record Through {F G B A : Type 0} (into : List F → List G) (works : List G → List B → Type 0) (out : List B → List A → Type 0) (took : List F) (put : List A) : Type 0 where
  pub made : List B
  pub works_on : works (into took) made
  pub puts : out made put

-- the outputs may come in any order
abbrev pub AnyOrder : {F A : Type 0} → (List F → List A → Type 0) → Type 0
AnyOrder {F} {A} out = (took : List F) (rest moved : List A) → out took rest → IsPermutation rest moved → out took moved

-- ---- laws

-- a state that works in order: whatever the output is after a step, before the step it was that output behind what the step adds
abbrev pub InOrderContinues : {F A : Type 0} → (List F → Type 0) → (List F → Type 0) → (List F → List A → Type 0) → (List F → List A → Type 0) → Type 0
InOrderContinues {F} {A} may may' out out' = (owed owed' : List A) (held held' fed : List F) (sent : List A)
    → ((took : List F) → may' took → may (fed ++ took))
    → ((took : List F) (rest : List A) → may' took → out' (held' ++ took) rest → (old : List A) × out (held ++ (fed ++ took)) old × (owed ++ old ≡ sent ++ (owed' ++ rest)))
    → Continues (λ took put. may took × InOrder owed held out took put) fed sent (λ took put. may' took × InOrder owed' held' out' took put)

-- a free state whose outputs may come in any order
abbrev pub FreeContinues : {F A : Type 0} → (List F → Type 0) → (List F → Type 0) → (List F → List A → Type 0) → (List F → List A → Type 0) → Type 0
FreeContinues {F} {A} may may' out out' = (owed owed' : List A) (held held' fed : List F) (sent : List A)
    → AnyOrder out
    → ((took : List F) → may' took → may (fed ++ took))
    → ((took : List F) (rest : List A) → may' took → out' (held' ++ took) rest → (old : List A) × out (held ++ (fed ++ took)) old × IsPermutation (owed ++ old) (sent ++ (owed' ++ rest)))
    → Continues (λ took put. may took × Free owed held out took put) fed sent (λ took put. may' took × Free owed' held' out' took put)

-- one step after the other
abbrev pub ContinuesThen : {F A : Type 0} → (List F → List A → Type 0) → (List F → List A → Type 0) → (List F → List A → Type 0) → Type 0
ContinuesThen {F} {A} first second third = (fed fed' : List F) (sent sent' : List A)
    → Continues first fed sent second → Continues second fed' sent' third → Continues first (fed ++ fed') (sent ++ sent') third

-- a state that keeps no rows, but stands for lists of them: for each list for which it stood before the step there is one for
-- which it stands after it, of which the outputs tell as they do of rows that are held
abbrev pub HeldContinues : {F A : Type 0} → (List F → Type 0) → (List F → Type 0) → (List F → Type 0) → (List F → Type 0) → (List F → List A → Type 0) → (List F → List A → Type 0) → Type 0
HeldContinues {F} {A} may may' stands stands' out out' = (owed owed' : List A) (fed : List F) (sent : List A)
    → AnyOrder out
    → ((took : List F) → may' took → may (fed ++ took))
    → ((held : List F) → stands held → (held' : List F) × stands' held' × ((took : List F) (rest : List A) → may' took → out' (held' ++ took) rest → (old : List A) × out (held ++ (fed ++ took)) old × IsPermutation (owed ++ old) (sent ++ (owed' ++ rest))))
    → Continues (λ took put. may took × FreeForEach owed stands out took put) fed sent (λ took put. may' took × FreeForEach owed' stands' out' took put)

-- a step that changes nothing
abbrev pub IdleContinues : {F A : Type 0} → (List F → List A → Type 0) → Type 0
IdleContinues rest = Continues rest [] [] rest

-- where there is an output for what is held and each way in which the taking may go on, there is something to put
abbrev pub InOrderAlive : {F A : Type 0} → (List F → Type 0) → (List F → List A → Type 0) → Type 0
InOrderAlive {F} {A} may out = (owed : List A) (held : List F) → ((took : List F) → may took → (rest : List A) × out (held ++ took) rest)
    → Alive may (λ took put. may took × InOrder owed held out took put)

abbrev pub FreeAlive : {F A : Type 0} → (List F → Type 0) → (List F → List A → Type 0) → Type 0
FreeAlive {F} {A} may out = (owed : List A) (held : List F) → ((took : List F) → may took → (rest : List A) × out (held ++ took) rest)
    → Alive may (λ took put. may took × Free owed held out took put)

-- so there is where one output serves all lists for which a state stands
abbrev pub HeldAlive : {F A : Type 0} → (List F → Type 0) → (List F → Type 0) → (List F → List A → Type 0) → Type 0
HeldAlive {F} {A} may stands out = (owed : List A) → ((took : List F) → may took → (rest : List A) × ((held : List F) → stands held → out (held ++ took) rest))
    → Alive may (λ took put. may took × FreeForEach owed stands out took put)

-- where nothing may come any more, nothing is owed and nothing held, an output of nothing for nothing has finished
abbrev pub InOrderFinished : {F A : Type 0} → (List F → Type 0) → (List F → List A → Type 0) → Type 0
InOrderFinished {F} {A} may out = may [] → ((took : List F) → may took → took ≡ []) → out [] [] → ((rest : List A) → out [] rest → rest ≡ [])
    → Finished (λ took put. may took × InOrder [] [] out took put)

abbrev pub FreeFinished : {F A : Type 0} → (List F → Type 0) → (List F → List A → Type 0) → Type 0
FreeFinished {F} {A} may out = may [] → ((took : List F) → may took → took ≡ []) → out [] [] → ((rest : List A) → out [] rest → rest ≡ [])
    → Finished (λ took put. may took × Free [] [] out took put)

-- so has a state that stands for some list, and of each such list has no output but that of nothing
abbrev pub HeldFinished : {F A : Type 0} → (List F → Type 0) → (List F → Type 0) → (List F → List A → Type 0) → Type 0
HeldFinished {F} {A} may stands out = may [] → ((took : List F) → may took → took ≡ []) → ((held : List F) × stands held)
    → ((held : List F) → stands held → out held [] × ((rest : List A) → out held rest → rest ≡ []))
    → Finished (λ took put. may took × FreeForEach [] stands out took put)

-- where every input has ended, nothing comes
abbrev pub NoneIsOpen : Type 0 → Type 0
NoneIsOpen A = (ended : ℕ → Bool) → ((input : ℕ) → ended input ≡ true) → (took : List (ℕ × A)) → IsOpen ended took → took ≡ []

-- ---- laws of what goes through others

-- what a step takes is this to the one that works, before what is still to be taken
abbrev pub FeedsOn : {F G : Type 0} → (List F → List G) → (List F → List G) → List F → List G → Type 0
FeedsOn {F} {G} into into' fed given = (took : List F) → into (fed ++ took) ≡ given ++ into' took

-- what the one that works then makes may be put behind what the step puts
abbrev pub PutsOn : {B A : Type 0} → (List B → List A → Type 0) → (List B → List A → Type 0) → List B → List A → Type 0
PutsOn {B} {A} out out' gave sent = (made : List B) (put : List A) → out' made put → out (gave ++ made) (sent ++ put)

-- a step of the one that works, or none, with what it means before and behind it
abbrev pub ThroughContinues : {F G B A : Type 0} → (into into' : List F → List G) → (works works' : List G → List B → Type 0) → (out out' : List B → List A → Type 0) → Type 0
ThroughContinues {F} {G} {B} {A} into into' works works' out out' = (fed : List F) (given : List G) (gave : List B) (sent : List A)
    → FeedsOn into into' fed given → Continues works given gave works' → PutsOn out out' gave sent
    → Continues (Through into works out) fed sent (Through into' works' out')

-- where the one that works always has something to make, and all of that can be put
abbrev pub ThroughAlive : {F G B A : Type 0} → (List F → Type 0) → (List G → Type 0) → (List F → List G) → (List G → List B → Type 0) → (List B → List A → Type 0) → Type 0
ThroughAlive {F} {G} {B} {A} may may_work into works out = ((took : List F) → may took → may_work (into took)) → Alive may_work works → ((made : List B) → (put : List A) × out made put)
    → Alive may (Through into works out)

-- where the one that works has finished with this, that is put as this and nothing else, and to be given nothing is to take nothing
abbrev pub ThroughFinished : {F G B A : Type 0} → (List F → List G) → (List G → List B → Type 0) → (List B → List A → Type 0) → Type 0
ThroughFinished {F} {G} {B} {A} into works out = (last : List B) (put : List A) → into [] ≡ [] → ((took : List F) → into took ≡ [] → took ≡ [])
    → FinishedWith last works → out last put → ((other : List A) → out last other → other ≡ put)
    → FinishedWith put (Through into works out)

-- who has finished with nothing has finished
abbrev pub FinishesWithNone : {F A : Type 0} → (List F → List A → Type 0) → Type 0
FinishesWithNone rest = (FinishedWith [] rest → Finished rest) × (Finished rest → FinishedWith [] rest)

-- what a whole run took and put, before it finished with this
abbrev pub RunsToEnd : {F A : Type 0} → (List F → List A → Type 0) → (List F → List A → Type 0) → Type 0
RunsToEnd {F} {A} first final = (took : List F) (put last : List A) → Continues first took put final → FinishedWith last final → first took (put ++ last)
