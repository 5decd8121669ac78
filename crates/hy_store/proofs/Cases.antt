-- What calls make of runs, in worked cases.
use Rattle.std.proofs.Common.{◌≡◌, ℕ, List, [], ◌∷◌, ◌++◌, length, Option, Some, None, refl, sym, ap, arith}
use Rattle.std.specs.List.{All}
use Rattle.std.proofs.lemmas.List.Elements.{All-nil, All-cons}
use Rattle.hy_frame.specs.Frame.{FrameOf}
use Rattle.hy_store.specs.Cases.{one, two, first, second, NumbersStay, MadeLast, NotMadeWithFrames, NotMadeAgain, GrownAtItsEnd, NotGrownInFront, OthersDontGrow, OthersKeepTheirs, CountsAreKnown, TellsOn, OneIsRemoved, NotAllRemoved, NoneIsRemoved, PlaceIsFound, NotThePlaceBefore, NotAnotherRun, OneShape, TakenWithItsRuns, RunsAreNotDropped, FramesAreNotDropped, MadeAddsUp, CountsStop, RowAsFields, NullIsNoText}
use Rattle.hy_store.proofs.SlotLaws.{created, removed, mem_grown}

shape : FrameOf → Type 0
shape frame = (frame.arity ≡ 1) × (frame.unit ≡ 256)

differ : one ≡ two → ⊥
differ e = let n : 1 ≡ 2 = ap (λ (f : FrameOf). length f.rows) e in omega (arith, n)

same_frames : (a b : FrameOf) → ◌≡◌ {A = Option FrameOf} (Some a) (Some b) → a ≡ b
same_frames a b e = cc

all_two : All shape second
unfolding shape
all_two = All-cons shape two (one ∷ []) (refl, refl) (All-cons shape one [] (refl, refl) (All-nil shape))

pub numbers_stay : NumbersStay
numbers_stay = refl

pub made_last : MadeLast
made_last = created length (Some (λ frames. frames)) (Some first ∷ Some second ∷ []) [] refl refl

pub not_made_with_frames : NotMadeWithFrames
not_made_with_frames = λ h. let e = h.empty in absurd (cc)

pub not_made_again : NotMadeAgain
not_made_again = λ h. let e = h.number in absurd (cc)

pub grown_at_its_end : GrownAtItsEnd
grown_at_its_end = mem_grown (Some first ∷ Some second ∷ []) 1 two (Some second) (Some (two ∷ one ∷ two ∷ [])) (1, omega arith, refl) refl refl

pub not_grown_in_front : NotGrownInFront
not_grown_in_front = λ h. let e : second ++ two ∷ [] ≡ two ∷ two ∷ one ∷ [] = sym h.held in let same : one ≡ two = cc in differ same

pub others_dont_grow : OthersDontGrow
others_dont_grow = λ h. let e = h.others.count 0 (λ z. absurd (cc)) in absurd (cc)

pub others_keep_theirs : OthersKeepTheirs
others_keep_theirs = λ h. let e : two ∷ [] ≡ one ∷ [] = h.others.held 0 (λ z. absurd (cc)) in let same : one ≡ two = cc in differ same

pub counts_are_known : CountsAreKnown
counts_are_known = λ h. let e = h.longer in absurd (cc)

pub tells_on : TellsOn
tells_on = λ h. let e = h.others.tells in absurd (cc)

pub one_is_removed : OneIsRemoved
one_is_removed = removed length (Some (λ frames. frames)) (Some first ∷ Some second ∷ []) 0

pub not_all_removed : NotAllRemoved
not_all_removed = λ h. let e = h.live in absurd (cc)

pub none_is_removed : NoneIsRemoved
none_is_removed = λ h. let e = h.live in absurd (cc)

pub place_is_found : PlaceIsFound
place_is_found = refl

pub not_the_place_before : NotThePlaceBefore
not_the_place_before = λ h. differ (sym (same_frames two one h))

pub not_another_run : NotAnotherRun
not_another_run = λ h. differ (same_frames one two h)

pub one_shape : OneShape
unfolding shape
one_shape = (all_two, λ h. let e : 1 ≡ 2 = (h 0 one (omega arith)).0 in omega (arith, e), λ h. let e : 256 ≡ 512 = (h 0 one (omega arith)).1 in omega (arith, e))

pub taken_with_its_runs : TakenWithItsRuns
taken_with_its_runs = record { live = refl; held = refl; made = record { is = refl; none = λ z. absurd (cc) }; out = refl }

pub runs_are_not_dropped : RunsAreNotDropped
runs_are_not_dropped = λ h. let e = h.live in absurd (cc)

pub frames_are_not_dropped : FramesAreNotDropped
frames_are_not_dropped = λ h. let e = h.held in absurd (cc)

pub made_adds_up : MadeAddsUp
made_adds_up = λ h. let e = h.made.is in absurd (cc)

pub counts_stop : CountsStop
counts_stop = (record { is = refl; none = λ z. absurd (cc) }, record { is = refl; none = λ z. refl }, λ h. let e = h.is in absurd (cc), λ h. let e = h.is in absurd (cc))

pub row_as_fields : RowAsFields
row_as_fields = refl

pub null_is_no_text : NullIsNoText
null_is_no_text = λ e. absurd (cc)
