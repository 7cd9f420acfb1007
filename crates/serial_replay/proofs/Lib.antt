mod LoopTurns
mod ProgramParts
mod StackRoom
mod StackEvaluation
mod ReadsInOrder
mod ValueTables
mod NumberStack
