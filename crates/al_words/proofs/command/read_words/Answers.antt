use Rattle.std.proofs.Common.{◌≡◌, ◌∙◌, ap, Ok, Err, List, MatchResult, Result, String, map, string_bytes, sym, subst}
use Rattle.al_words.specs.Words.{Asks, Bytes, IsCommand, Options}
use Rattle.al_words.specs.Usage.{AreTaken, options_in, rows_read, texts, words_in}
use Rattle.al_words.specs.declared.command.Command.{Command}
use Rattle.al_words.specs.declared.words.WordsFault.{WordsFault}
use Rattle.al_words.specs.declared.words.WordsFault.TheVariants.{Usage}
use Rattle.al_words.proofs.Asking.{asks_again, is_command, is_taken}
use Rattle.al_words.proofs.command.read_words.Goals as goal

-- an answer to what is read of the words is one to the words
answers : {Z : Type 0} (words : List (String Z)) (ws : List Bytes) (o : Options) (r : Result Command WordsFault) → AreTaken (map string_bytes words)
    → ws ≡ words_in (rows_read (map string_bytes words)) → o ≡ options_in (rows_read (map string_bytes words))
    → MatchResult r (Asks ws o) (λ e. e ≡ Usage → (c : Command) → Asks ws o c → ⊥)
    → MatchResult r (IsCommand (map string_bytes words)) (λ e. e ≡ Usage → (c : Command) → IsCommand (map string_bytes words) c → ⊥)
answers words ws o (Ok c) taken e f h = is_command words c taken (subst (λ y. Asks (words_in (rows_read (map string_bytes words))) y c) f (subst (λ x. Asks x o c) e h))
answers words ws o (Err fault) taken e f h =
    λ is c asked. h is c (subst (λ x. Asks x o c) (sym e) (subst (λ y. Asks (words_in (rows_read (map string_bytes words))) y c) (sym f) (asks_again (map string_bytes words) c asked)))

pub returns-in-Err : goal.returns-in-Err
returns-in-Err c = λ e command h. c.in-Err.ensures.refused e (is_taken _ command h)

pub returns : goal.returns
returns c =
    let same = c.in-Ok.ensures.rows in
    answers c.args.words.now _ _ c.command_of.result c.in-Ok.ensures.taken
    (ap texts c.as_slice.ensures.value ∙ (c.in_ok-words.ensures.ok ∙ ap words_in same)) (c.from_matches.ensures ∙ ap options_in same) c.command_of.ensures
