-- The log of a task: what each step adds to it, notes of it and keeps.
pub mod OneMoreCall
pub mod CallsLead
pub mod StepTells
pub mod StepCalls
pub mod StepNotes
pub mod StepKeeps
pub mod RanHolds
