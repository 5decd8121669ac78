mod Asking
mod Finding
mod Schedules
mod Shapes
mod Taking
mod Uses
mod Walks
mod Whole
