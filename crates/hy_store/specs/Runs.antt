-- The runs of a store and of a shelf, and what calls make of them.
use Rattle.std.specs.Prelude.{◌≡◌, ◌≢◌, ◌+◌, ◌^◌, ◌-◌, ℕ, min, not, nat_eq, List, [], ◌∷◌, ◌++◌, length, map, Option, Some, slice_get, filter, is_some}
use Rattle.std.specs.List.{All, Contains}
use Rattle.al_value.specs.Outside.{Told}
use Rattle.hy_frame.specs.Frame.{FrameOf}

-- the frames of each run, by the run's number
abbrev pub Held : Type 0
Held = ℕ → List FrameOf

-- the numbers of the live runs, how many frames each of these has, which frames, where the store tells it, and how many
-- runs were made. Of a number that is no live run's nothing is meant.
pub record RunsOf : Type 0 where
  pub live : List ℕ
  pub count : ℕ → ℕ
  pub held : Option Held
  pub made : ℕ

abbrev pub IsLive : RunsOf → ℕ → Type 0
IsLive s run = Contains s.live run

-- a store without a live run, that made none
pub record AreNew (s : RunsOf) : Type 0 where
  pub live : s.live ≡ []
  pub made : s.made ≡ 0

-- the other numbers
abbrev pub without : ℕ → List ℕ → List ℕ
without run live = filter (λ r. not (nat_eq r run)) live

-- each run but this one has as many frames as it had, and the same. What tells goes on telling, and what doesn't doesn't.
pub record Others (run : ℕ) (old new : RunsOf) : Type 0 where
  pub count : (r : ℕ) → r ≢ run → new.count r ≡ old.count r
  pub tells : is_some new.held ≡ is_some old.held
  pub held : Told old.held (λ f. Told new.held (λ g. (r : ℕ) → r ≢ run → g r ≡ f r))

-- the frames of this run, where they are told before and after
abbrev pub ToldOf : ℕ → RunsOf → RunsOf → (List FrameOf → List FrameOf → Type 0) → Type 0
ToldOf run old new P = Told old.held (λ f. Told new.held (λ g. P (f run) (g run)))

-- a run of this number was made. Numbers go up, so none is given twice.
pub record Created (run : ℕ) (old new : RunsOf) : Type 0 where
  pub number : run ≡ old.made
  pub fresh : ¬ IsLive old run
  pub live : new.live ≡ old.live ++ run ∷ []
  pub made : new.made ≡ old.made + 1
  pub empty : new.count run ≡ 0
  pub held : Told new.held (λ g. g run ≡ [])
  pub others : Others run old new

-- the frame stands last in this run
pub record Grown (run : ℕ) (frame : FrameOf) (old new : RunsOf) : Type 0 where
  pub live : new.live ≡ old.live
  pub made : new.made ≡ old.made
  pub longer : new.count run ≡ old.count run + 1
  pub held : ToldOf run old new (λ before now. now ≡ before ++ frame ∷ [])
  pub others : Others run old new

-- this run is live no more
pub record Removed (run : ℕ) (old new : RunsOf) : Type 0 where
  pub live : new.live ≡ without run old.live
  pub made : new.made ≡ old.made
  pub others : Others run old new

-- all frames of a run have this arity and unit, as far as they are told
abbrev pub HaveShape : RunsOf → ℕ → ℕ → ℕ → Type 0
HaveShape s run arity unit = Told s.held (λ f. All (λ frame. (frame.arity ≡ arity) × (frame.unit ≡ unit)) (f run))

-- this is the frame in this place of a run, where that is told
abbrev pub IsFrameAt : RunsOf → ℕ → ℕ → FrameOf → Type 0
IsFrameAt s run k frame = Told s.held (λ f. slice_get (f run) k ≡ Some frame)

-- how many runs of stores that were taken back are live, their frames, where they are told, how many runs were made,
-- and how many stores are out
pub record ShelfOf : Type 0 where
  pub live : ℕ
  pub held : Option (List (List FrameOf))
  pub made : ℕ
  pub out : ℕ

-- n was added to a count, which stands still at its type's end
pub record Added (n before now : ℕ) : Type 0 where
  pub is : now ≡ min (before + n) (2 ^ 64 - 1)
  pub none : n ≡ 0 → now ≡ before

-- a store with these runs was taken back
pub record TakenBack (store : RunsOf) (old new : ShelfOf) : Type 0 where
  pub live : new.live ≡ old.live + length store.live
  pub held : Told old.held (λ runs. Told store.held (λ f. new.held ≡ Some (runs ++ map f store.live)))
  pub made : Added store.made old.made new.made
  pub out : new.out + 1 ≡ old.out
