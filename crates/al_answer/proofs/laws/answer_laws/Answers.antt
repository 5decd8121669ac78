use Rattle.al_answer.proofs.Records.{job_computes}
use Rattle.al_answer.proofs.Faults.{checks_fault}
use Rattle.al_answer.proofs.Finds.{flows_fault}
use Rattle.al_answer.proofs.Failing.{job_faults}
use Rattle.al_answer.proofs.Read.{answers_allowed, faults_are_faults}
use Rattle.al_answer.proofs.laws.answer_laws.Goals as goal

pub returns-clause-computes : goal.returns-clause-computes
returns-clause-computes c = job_computes

pub returns-clause-read : goal.returns-clause-read
returns-clause-read c = answers_allowed

pub returns-clause-faults : goal.returns-clause-faults
returns-clause-faults c = faults_are_faults

pub returns-clause-checks : goal.returns-clause-checks
returns-clause-checks c = checks_fault

pub returns-clause-flows : goal.returns-clause-flows
returns-clause-flows c = flows_fault

pub returns-clause-fails : goal.returns-clause-fails
returns-clause-fails c = job_faults
