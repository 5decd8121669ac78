use Rattle.std.proofs.Common.{◌≡◌, ◌∙◌, ap, refl, true, sym, [], map, string_bytes, inl, inr}
use Rattle.clap.specs.Simple.{App, is_simple, matches_of}
use Rattle.clap.specs.Faults.{fault_of, is_simple_and_free}
use Rattle.clap.specs.Kinds.{HasKind, Kinds}
use Rattle.clap.specs.Values.{kind_of}
use Rattle.clap.specs.declared.error.Error.{Error}
use Rattle.clap.specs.declared.error.kind.ErrorKind.TheVariants as kind
use Rattle.al_words.specs.Usage.{AreTaken, rows_read, usage_app}
use Rattle.al_words.proofs.words.match_words.Goals as goal

is_plain : is_simple usage_app ≡ true
unfolding usage_app
is_plain = refl

is_free : is_simple_and_free usage_app ≡ true
unfolding usage_app
is_free = refl

pub returns-in-Ok-try_get_matches_from-clause-taken : goal.returns-in-Ok-try_get_matches_from-clause-taken
unfolding AreTaken
returns-in-Ok-try_get_matches_from-clause-taken c =
    let app = c.in-Ok.ensures in
    let kinds = c.in-Ok-try_get_matches_from.ensures.kinds (ap is_simple_and_free app ∙ is_free) in
    ap (λ (a : App). fault_of a (map string_bytes c.args.words.now)) (sym app) ∙ kinds

pub returns-in-Ok-try_get_matches_from-clause-rows : goal.returns-in-Ok-try_get_matches_from-clause-rows
unfolding rows_read
returns-in-Ok-try_get_matches_from-clause-rows c =
    let app = c.in-Ok.ensures in
    (c.in-Ok-try_get_matches_from.ensures.matches (ap is_simple app ∙ is_plain)).0 ∙ ap (λ (a : App). matches_of a (map string_bytes c.args.words.now)) app

none_among : (kinds : Kinds) (e : Error) → kinds ≡ [] → HasKind kinds e → kind_of e ≡ kind.OutOfMemory
none_among kinds e none (inl h) = h
none_among kinds e none (inr h) = absurd (rw none at h)

pub returns : goal.returns
unfolding AreTaken
returns c =
    let app = c.in-Ok.ensures in
    let kinds = c.in-Err.ensures.kinds (ap is_simple_and_free app ∙ is_free) in
    record {
      taken = tt;
      rows = tt;
      refused = λ e none.
          let no_fault = ap (λ (a : App). fault_of a (map string_bytes c.args.words.now)) app ∙ none in
          let memory = none_among _ c.in-Err.error no_fault kinds in
          c.in_default-kind.not-OutOfMemory (c.kind.ensures ∙ memory);
    }
