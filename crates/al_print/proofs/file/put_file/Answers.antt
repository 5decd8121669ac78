use Rattle.std.proofs.Common.{ap, ◌∙◌, ◌∷◌, [], codes}
use Rattle.std.specs.List.{flat_map}
use Rattle.al_plan.specs.Grammar.{count_word, dataset_words, plan_words}
use Rattle.al_print.specs.Canonical.{after}
use Rattle.al_print.proofs.LineLaws.{file_of}
use Rattle.al_print.proofs.file.put_file.Goals as goal

pub returns : goal.returns
returns c =
    file_of c.close.result c.args.line.now c.head.new.self c.count.new.self c.put_datasets.new.line c.put_plan.new.line c.close.new.self
    (codes "algebricks") (count_word c.args.f.now.version) (flat_map dataset_words c.args.f.now.datasets) (plan_words c.args.root.now)
    c.in_ok-head.ensures
    (c.in_ok-count.ensures ∙ ap (λ n. after c.head.new.self (count_word n ∷ [])) c.from.ensures)
    (c.in_ok-put_datasets.ensures ∙ ap (λ ds. after c.count.new.self (flat_map dataset_words ds)) c.as_slice.ensures)
    c.in_ok-put_plan.ensures c.close.ensures
