-- A task over files, and its manner.
use Rattle.std.specs.Prelude.{option_map}
use Rattle.page_workers.specs.declared.job.PageJob.{Ghosts as JobGhosts}
use Rattle.file_documents.specs.Manner.{Manner, manner_by}
use Rattle.file_documents.specs.declared.task.Task.{Task}

-- the manner of a task: the texts that belong to a page are those of its job
abbrev pub manner_of : {R J G : Type 0} → (of_job : JobGhosts J) → Task R J G of_job → Manner
manner_of of_job task =
    manner_by task.level task.invert (option_map (λ s. s.now) task.output) task.suffix.now task.plan.binding (of_job.belongs task.plan.job.now)
