mod PeriodLaws
mod RunLaws
